use Rattle.std.proofs.Common.{◌≡◌, ℕ, ◌+◌, ◌<◌, [], ◌∷◌, ◌++◌, inr, length, get_or, drop, min, true≢false, arith, sym, ◌∙◌, refl, ap}
use Rattle.std.proofs.lemmas.List.{drop_more, drop_all}
use Rattle.bit_sets.specs.StateSets.{has_state, state_capacity}
use Rattle.byte_nfa.specs.Runs.{AcceptsFrom}
use Rattle.byte_nfa.proofs.lemmas.Pass.{iff_trans}
use Rattle.byte_nfa.proofs.lemmas.Finding.{at_quiet, at_dead}
use Rattle.byte_nfa.proofs.lemmas.Stepping.{decides_some, none_decided, dead_step, room_swapped, counted_anew}
use Rattle.byte_nfa.specs.EarlyMatches.{half}
use Rattle.byte_nfa.proofs.stepping.read.Goals as goal

pub loop-byte-preserved : goal.loop-byte-preserved
loop-byte-preserved c =
    let m = c.args.automaton.now in
    let text = c.args.text.now in
    let i = c.loop-byte.byte-index in
    let lt : i < length text = omega arith in
    let b : ℕ = get_or text i 0 in
    let rest = drop (i + 1) text in
    let more : drop i text ≡ b ∷ rest = drop_more text i 0 lt in
    let before = AcceptsFrom m c.loop-byte.from in
    let took = c.has_end.ensures in
    let some = rw c.index_count-half.ensures at took.some in
    let inv = c.loop-byte.invariant in
    let none = none_decided m c.loop-byte.from (λ h. true≢false (sym (some.1 h) ∙ c.if-has_end.false)) in
    record {
      sets = room_swapped (state_capacity c.swap.new.x) (state_capacity c.swap.new.y) (state_capacity c.loop-byte.from) (state_capacity c.loop-byte.to) (min (state_capacity c.args.from.now) (state_capacity c.args.to.now))
          (ap state_capacity c.swap.ensures.x_after ∙ took.to_capacity) (ap state_capacity c.swap.ensures.y_after ∙ took.from_capacity) inv.sets;
      runs = λ z k. rw c.swap.ensures.x_after (iff_trans (at_quiet (half m) before (AcceptsFrom m c.has_end.new.to) b (λ y j. took.steps c.if-has_end.false b y j refl) none (rest ++ z) k) (rw more at inv.runs z k));
      visits = omega (arith, inv.visits, took.visits);
      counted = rw c.swap.ensures.x_after (counted_anew (has_state c.args.from.now) (has_state c.loop-byte.from) (has_state c.has_end.new.to) _ _ _ inv.counted took.counted);
    }

pub returns-then-has_end-clause-led : goal.returns-then-has_end-clause-led
returns-then-has_end-clause-led c = λ z.
    let m = c.args.automaton.now in
    let text = c.args.text.now in
    let i = c.loop-byte.byte-index in
    let lt : i < length text = omega arith in
    let b : ℕ = get_or text i 0 in
    let rest = drop (i + 1) text in
    let more : drop i text ≡ b ∷ rest = drop_more text i 0 lt in
    let before = AcceptsFrom m c.loop-byte.from in
    let took = c.has_end.ensures in
    let some = rw c.index_count-half.ensures at took.some in
    let (source, early) = c.requires.early in
    let (k, low, h) = decides_some source m early c.loop-byte.from (some.0 c.if-has_end.true) in
    (k, (rw more at c.loop-byte.invariant.runs z k).0 (low, inr ([], b ∷ rest ++ z, refl, h)))

pub returns-then-is_empty-clause-led : goal.returns-then-is_empty-clause-led
returns-then-is_empty-clause-led c = λ z k found.
    let m = c.args.automaton.now in
    let text = c.args.text.now in
    let i = c.loop-byte.byte-index in
    let lt : i < length text = omega arith in
    let b : ℕ = get_or text i 0 in
    let rest = drop (i + 1) text in
    let more : drop i text ≡ b ∷ rest = drop_more text i 0 lt in
    let before = AcceptsFrom m c.loop-byte.from in
    let took = c.has_end.ensures in
    let some = rw c.index_count-half.ensures at took.some in
    let none = none_decided m c.loop-byte.from (λ h. true≢false (sym (some.1 h) ∙ c.if-has_end.false)) in
    let dead = dead_step m c.loop-byte.from c.has_end.new.to b (λ y j. took.steps c.if-has_end.false b y j refl) (rw c.swap.ensures.x_after at c.is_empty.ensures c.if-is_empty.true) in
    let (low, h) = (at_dead (half m) before b dead (rest ++ z) k).0 ((rw more at c.loop-byte.invariant.runs z k).1 found) in
    none k low h

pub returns-clause-led : goal.returns-clause-led
returns-clause-led c = λ z k.
    let past : drop c.loop-byte.byte-index c.args.text.now ≡ [] = drop_all c.loop-byte.byte-index c.args.text.now (omega arith) in
    rw past at c.loop-byte.invariant.runs z k
