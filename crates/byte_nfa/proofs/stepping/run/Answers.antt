use Rattle.std.proofs.Common.{◌≡◌, ℕ, ◌+◌, ◌<◌, [], ◌∷◌, ◌++◌, length, get_or, drop, min, arith, refl, ◌∙◌, ap}
use Rattle.std.proofs.lemmas.List.{drop_more, drop_all}
use Rattle.bit_sets.specs.Indexes.{has_index}
use Rattle.bit_sets.specs.StateSets.{has_state, state_capacity}
use Rattle.byte_nfa.specs.Runs.{AcceptsFrom}
use Rattle.byte_nfa.proofs.lemmas.Pass.{iff_trans, iff_sym}
use Rattle.byte_nfa.proofs.lemmas.Finding.{iff_beside, at_dead, told_found}
use Rattle.byte_nfa.proofs.lemmas.Stepping.{dead_step, room_swapped, counted_anew}
use Rattle.byte_nfa.proofs.lemmas.Told.{told_decided}
use Rattle.byte_nfa.specs.EarlyMatches.{half}
use Rattle.byte_nfa.proofs.stepping.run.Goals as goal

pub loop-byte-preserved : goal.loop-byte-preserved
loop-byte-preserved c =
    let m = c.args.automaton.now in
    let inv = c.loop-byte.invariant in
    let text = c.args.text.now in
    let i = c.loop-byte.byte-index in
    let lt : i < length text = omega arith in
    let b : ℕ = get_or text i 0 in
    let rest = drop (i + 1) text in
    let more : drop i text ≡ b ∷ rest = drop_more text i 0 lt in
    let took = c.step.ensures in
    let before = AcceptsFrom m c.loop-byte.from in
    let told = rw c.index_count-half.ensures at took.told in
    record {
      sets = room_swapped (state_capacity c.swap.new.x) (state_capacity c.swap.new.y) (state_capacity c.loop-byte.from) (state_capacity c.loop-byte.to) (min (state_capacity c.args.from.now) (state_capacity c.args.to.now))
          (ap state_capacity c.swap.ensures.x_after ∙ took.to_capacity) (ap state_capacity c.swap.ensures.y_after ∙ took.from_capacity) inv.sets;
      room = took.room ∙ inv.room;
      runs = λ z k. rw c.swap.ensures.x_after (told_found (half m) before (AcceptsFrom m c.step.new.to) b (λ y j. took.steps b y j refl) (rest ++ z) k
          (has_index c.loop-byte.found k) (has_index c.step.new.found k) _ (iff_trans (told k) (iff_beside (told_decided (half m) (before []) k))) (rw more at inv.runs z k));
      visits = omega (arith, inv.visits, took.visits);
      counted = rw c.swap.ensures.x_after (counted_anew (has_state c.args.from.now) (has_state c.loop-byte.from) (has_state c.step.new.to) _ _ _ inv.counted took.counted);
    }

pub returns-then-is_empty-clause-none : goal.returns-then-is_empty-clause-none
returns-then-is_empty-clause-none c = λ _ z k.
    let m = c.args.automaton.now in
    let inv = c.loop-byte.invariant in
    let text = c.args.text.now in
    let i = c.loop-byte.byte-index in
    let lt : i < length text = omega arith in
    let b : ℕ = get_or text i 0 in
    let rest = drop (i + 1) text in
    let more : drop i text ≡ b ∷ rest = drop_more text i 0 lt in
    let took = c.step.ensures in
    let before = AcceptsFrom m c.loop-byte.from in
    let told = rw c.index_count-half.ensures at took.told in
    let dead = dead_step m c.loop-byte.from c.step.new.to b (λ y j. took.steps b y j refl) (rw c.swap.ensures.x_after at c.is_empty.ensures c.if-is_empty.true) in
    iff_trans (told k) (iff_trans (iff_beside (iff_trans (told_decided (half m) (before []) k) (iff_sym (at_dead (half m) before b dead (rest ++ z) k)))) (rw more at inv.runs z k))

pub returns-clause-found : goal.returns-clause-found
returns-clause-found c = λ _ z k.
    let past : drop c.loop-byte.byte-index c.args.text.now ≡ [] = drop_all c.loop-byte.byte-index c.args.text.now (omega arith) in
    rw past at c.loop-byte.invariant.runs z k

pub returns-then-is_empty-clause-led_counted : goal.returns-then-is_empty-clause-led_counted
returns-then-is_empty-clause-led_counted c = rw c.swap.ensures.x_after (counted_anew (has_state c.args.from.now) (has_state c.loop-byte.from) (has_state c.step.new.to) _ _ _ c.loop-byte.invariant.counted c.step.ensures.counted)
