use Rattle.std.proofs.Common.{ℕ, List, IsTrue, true≢false, sym, ◌∙◌, refl}
use Rattle.std.specs.Prelude.{◌↔◌}
use Rattle.bit_sets.specs.Texts.{AllBytes}
use Rattle.byte_nfa.specs.Runs.{AcceptsFrom}
use Rattle.byte_nfa.proofs.lemmas.Pass.{iff_trans}
use Rattle.byte_nfa.proofs.lemmas.After.{index_below, decided_after, nothing_after, marked_after, row_after}
use Rattle.byte_nfa.proofs.lemmas.Stepping.{decides_some, none_decided}
use Rattle.byte_nfa.specs.EarlyMatches.{half}
use Rattle.byte_nfa.proofs.stepping.can_match_after.Goals as goal

pub returns-in-Decided-clause-some : goal.returns-in-Decided-clause-some
returns-in-Decided-clause-some c = let m = c.args.automaton.now in decided_after (half m) (AcceptsFrom m c.args.from.now) c.args.text.now c.args.byte (rw c.in-Decided.is at c.read.ensures.led)

pub returns-in-NoState-clause-some : goal.returns-in-NoState-clause-some
returns-in-NoState-clause-some c = let m = c.args.automaton.now in nothing_after (half m) (AcceptsFrom m c.args.from.now) c.args.text.now c.args.byte (rw c.in-NoState.is at c.read.ensures.led)

pub returns-then-has_end-clause-some : goal.returns-then-has_end-clause-some
returns-then-has_end-clause-some c =
    let m = c.args.automaton.now in
    let (source, early) = c.requires.early in
    let some = rw c.index_count-half.ensures at c.has_end.ensures.some in
    marked_after (half m) (AcceptsFrom m c.args.from.now) c.args.text.now (AcceptsFrom m c.read.new.from) (rw c.in-States.is at c.read.ensures.led) c.args.byte
    (decides_some source m early c.read.new.from (some.0 c.if-has_end.true))

pub returns-clause-some : goal.returns-clause-some
returns-clause-some c =
    let m = c.args.automaton.now in
    let b = c.args.byte in
    let (source, early) = c.requires.early in
    let after = AcceptsFrom m c.has_end.new.to in
    let some = rw c.index_count-half.ensures at c.has_end.ensures.some in
    let none = none_decided m c.read.new.from (λ h. true≢false (sym (some.1 h) ∙ c.if-has_end.false)) in
    let live = c.has_live.ensures.some in
    let turned : IsTrue c.has_live.result ↔ ((k : ℕ) × (y : List ℕ) × AllBytes y × after y k) =
    (λ h. let (y, k, all, a) = live.0 h in (k, y, all, a), λ (k, y, all, a). live.1 (y, k, all, a)) in
    iff_trans turned
    (row_after (half m) (AcceptsFrom m c.args.from.now) c.args.text.now (AcceptsFrom m c.read.new.from) (rw c.in-States.is at c.read.ensures.led) b none after
    (λ y k. c.has_end.ensures.steps c.if-has_end.false b y k refl) (λ y k (t, lt, at, a). index_below source m early k t y a))
