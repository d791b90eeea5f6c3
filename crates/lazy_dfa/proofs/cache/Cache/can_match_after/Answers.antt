use Rattle.std.proofs.Common.{◌≡◌, ℕ, ◌+◌, ◌<◌, [], ap, arith, length, ◌++◌, ◌∷◌, sym, true≢false, ◌∙◌}
use Rattle.bit_sets.proofs.lemmas.Texts.{all_bytes}
use Rattle.lazy_dfa.specs.DfaValue.{DfaValue}
use Rattle.lazy_dfa.specs.inner.Dfa.{IsDfa}
use Rattle.byte_nfa.specs.Steps.{IsReached}
use Rattle.byte_nfa.specs.Runs.{size}
use Rattle.byte_nfa.proofs.lemmas.Pass.{iff_trans}
use Rattle.byte_nfa.specs.EarlyMatches.{half}
use Rattle.lazy_dfa.specs.inner.Rows.{AcceptsRow}
use Rattle.byte_nfa.proofs.lemmas.After.{index_below, decided_after, nothing_after, marked_after, row_after, dead_after}
use Rattle.lazy_dfa.proofs.lemmas.Reading.{bound_as, goes_on_as}
use Rattle.lazy_dfa.proofs.lemmas.Rows.{never_found}
use Rattle.lazy_dfa.proofs.cache.Cache.can_match_after.Goals as goal
use Rattle.lazy_dfa.proofs.cache.Cache.can_match_after.Goals.{in-Some, in-None}

pub returns-then-state_count-eq0-clause-some : goal.returns-then-state_count-eq0-clause-some
returns-then-state_count-eq0-clause-some c =
    let d = c.deref-dfa.result.now in
    let is = ap (λ (x : DfaValue). x.nfa) c.deref-dfa.ensures ∙ c.self.view_is in
    let dfa : IsDfa d = rw c.deref-dfa.ensures c.self.invariant.0.dfa in
    let text = c.args.text.now in
    let bytes = all_bytes text (λ j. (c.type_inv.text j).fits) in
    let none : size d.run ≡ 0 = sym c.state_count.ensures ∙ c.if-state_count-eq0.true in
    iff_trans (λ h. absurd (true≢false (sym h)), λ (k, y, all, f). absurd (never_found d.run none (text ++ c.args.byte ∷ y) k f)) (goes_on_as d c.args.self.now dfa is text c.args.byte bytes c.ranges.byte.fits)

pub returns-in-Decided-clause-some : goal.returns-in-Decided-clause-some
returns-in-Decided-clause-some c =
    let d = c.deref-dfa.result.now in
    let is = ap (λ (x : DfaValue). x.nfa) c.deref-dfa.ensures ∙ c.self.view_is in
    let dfa : IsDfa d = rw c.deref-dfa.ensures c.self.invariant.0.dfa in
    let text = c.args.text.now in
    let bytes = all_bytes text (λ j. (c.type_inv.text j).fits) in
    let m = d.run in
    iff_trans (decided_after (half m) (IsReached m) text c.args.byte (rw c.in-Decided.is at c.read.ensures.reached)) (goes_on_as d c.args.self.now dfa is text c.args.byte bytes c.ranges.byte.fits)

pub returns-in-Nothing-clause-some : goal.returns-in-Nothing-clause-some
returns-in-Nothing-clause-some c =
    let d = c.deref-dfa.result.now in
    let is = ap (λ (x : DfaValue). x.nfa) c.deref-dfa.ensures ∙ c.self.view_is in
    let dfa : IsDfa d = rw c.deref-dfa.ensures c.self.invariant.0.dfa in
    let text = c.args.text.now in
    let bytes = all_bytes text (λ j. (c.type_inv.text j).fits) in
    let m = d.run in
    iff_trans (nothing_after (half m) (IsReached m) text c.args.byte (rw c.in-Nothing.is at c.read.ensures.reached)) (goes_on_as d c.args.self.now dfa is text c.args.byte bytes c.ranges.byte.fits)

pub returns-then-step-clause-some : goal.returns-then-step-clause-some
returns-then-step-clause-some c =
    let d = c.deref-dfa.result.now in
    let is = ap (λ (x : DfaValue). x.nfa) c.deref-dfa.ensures ∙ c.self.view_is in
    let dfa : IsDfa d = rw c.deref-dfa.ensures c.self.invariant.0.dfa in
    let text = c.args.text.now in
    let bytes = all_bytes text (λ j. (c.type_inv.text j).fits) in
    let m = d.run in
    let (i, at, finds) = rw c.in-Row.is at c.read.ensures.reached in
    let step = c.step-step.ensures.step i at in
    iff_trans (marked_after (half m) (IsReached m) text (AcceptsRow m c.read.new.rows i) finds c.args.byte (step.marks.0 c.if-step.true)) (goes_on_as d c.args.self.now dfa is text c.args.byte bytes c.ranges.byte.fits)

pub returns-then-step-clause-visits : goal.returns-then-step-clause-visits
returns-then-step-clause-visits c =
    let d = c.deref-dfa.result.now in
    let is = ap (λ (x : DfaValue). x.nfa) c.deref-dfa.ensures ∙ c.self.view_is in
    let bound = bound_as d c.args.self.now c.read.ensures.sound.dfa is (length c.args.text.now + 2) in
    omega (arith, bound, c.read.ensures.visits, c.step-step.ensures.visits)

pub is_live-requires-clause-row : goal.is_live-requires-clause-row
is_live-requires-clause-row c =
    let (i, at, finds) = rw c.in-Row.is at c.read.ensures.reached in
    let (j, there, goes) = rw c.in-Some.is at (c.step-step.ensures.step i at).next in
    (j, there)

pub invariant_of-self-2 : goal.invariant_of-self-2
invariant_of-self-2 c =
    let sound = rw c.deref-dfa.ensures at c.step-step.ensures.sound in
    let fits = rw c.deref-dfa.ensures at c.step-step.ensures.fits in
    elim c.match-step.branch [ in-Some w ↦ rw w.self-inside-is (sound, fits) | in-None w ↦ rw w.self-inside-is (sound, fits) ]

pub returns-clause-some : goal.returns-clause-some
returns-clause-some c =
    let d = c.deref-dfa.result.now in
    let is = ap (λ (x : DfaValue). x.nfa) c.deref-dfa.ensures ∙ c.self.view_is in
    let dfa : IsDfa d = rw c.deref-dfa.ensures c.self.invariant.0.dfa in
    let text = c.args.text.now in
    let bytes = all_bytes text (λ j. (c.type_inv.text j).fits) in
    let m = d.run in
    let goes_on = goes_on_as d c.args.self.now dfa is text c.args.byte bytes c.ranges.byte.fits in
    let (i, at, finds) = rw c.in-Row.is at c.read.ensures.reached in
    let step = c.step-step.ensures.step i at in
    let quiet : (k : ℕ) → k < half m → AcceptsRow m c.read.new.rows i [] (half m + k) → ⊥ = λ k low a. true≢false (sym (step.marks.1 (k, low, a)) ∙ c.if-step.false) in
    elim c.match-step.branch [
      | in-Some w ↦
          let (j, there, goes) = rw w.in-Some.is at step.next in
          rw w.result-is (iff_trans (w.is_live.ensures.some j there)
          (iff_trans (row_after (half m) (IsReached m) text (AcceptsRow m c.read.new.rows i) finds c.args.byte quiet (AcceptsRow m c.step-step.new.self j) goes (λ y k (t, in', a). index_below dfa.runs.sharing m dfa.runs.early k t y a)) goes_on))
      | in-None w ↦ rw w.result-is (iff_trans (dead_after (half m) (IsReached m) text (AcceptsRow m c.read.new.rows i) finds c.args.byte quiet (rw w.in-None.is at step.next)) goes_on)
    ]

pub returns-clause-visits : goal.returns-clause-visits
returns-clause-visits c =
    let d = c.deref-dfa.result.now in
    let is = ap (λ (x : DfaValue). x.nfa) c.deref-dfa.ensures ∙ c.self.view_is in
    let bound = bound_as d c.args.self.now c.read.ensures.sound.dfa is (length c.args.text.now + 2) in
    elim c.match-step.branch [
      | in-Some w ↦ rw w.visits-is (omega (arith, bound, c.read.ensures.visits, c.step-step.ensures.visits, w.is_live.ensures.visits))
      | in-None w ↦ rw w.visits-is (omega (arith, bound, c.read.ensures.visits, c.step-step.ensures.visits))
    ]

pub returns-in-Decided-clause-visits : goal.returns-in-Decided-clause-visits
returns-in-Decided-clause-visits c =
    let d = c.deref-dfa.result.now in
    let is = ap (λ (x : DfaValue). x.nfa) c.deref-dfa.ensures ∙ c.self.view_is in
    let bound = bound_as d c.args.self.now c.read.ensures.sound.dfa is (length c.args.text.now + 2) in
    omega (arith, bound, c.read.ensures.visits)

pub returns-in-Nothing-clause-visits : goal.returns-in-Nothing-clause-visits
returns-in-Nothing-clause-visits c =
    let d = c.deref-dfa.result.now in
    let is = ap (λ (x : DfaValue). x.nfa) c.deref-dfa.ensures ∙ c.self.view_is in
    let bound = bound_as d c.args.self.now c.read.ensures.sound.dfa is (length c.args.text.now + 2) in
    omega (arith, bound, c.read.ensures.visits)
