use Rattle.std.proofs.Common.{◌≡◌, ap, ◌++◌, ◌∷◌, sym, true≢false, ◌∙◌}
use Rattle.bit_sets.proofs.lemmas.Texts.{all_bytes}
use Rattle.lazy_dfa.specs.DfaValue.{DfaValue}
use Rattle.lazy_dfa.specs.inner.Dfa.{IsDfa}
use Rattle.byte_nfa.specs.Steps.{IsReached}
use Rattle.byte_nfa.specs.Runs.{size}
use Rattle.byte_nfa.proofs.lemmas.Pass.{iff_trans}
use Rattle.byte_nfa.specs.EarlyMatches.{half}
use Rattle.lazy_dfa.specs.inner.Rows.{AcceptsRow}
use Rattle.byte_nfa.proofs.lemmas.After.{index_below, decided_after, nothing_after, marked_after, row_after, dead_after}
use Rattle.lazy_dfa.proofs.lemmas.Reading.{goes_on_as}
use Rattle.lazy_dfa.proofs.lemmas.Rows.{never_found}
use Rattle.lazy_dfa.proofs.cache.Cache.can_match_after_known.Goals as goal

pub returns-then-state_count-eq0-clause-some : goal.returns-then-state_count-eq0-clause-some
returns-then-state_count-eq0-clause-some c =
    let d = c.deref-dfa.result.now in
    let is = ap (λ (x : DfaValue). x.nfa) c.deref-dfa.ensures ∙ c.self.view_is in
    let dfa : IsDfa d = rw c.deref-dfa.ensures c.self.invariant.0.dfa in
    let text = c.args.text.now in
    let bytes = all_bytes text (λ j. (c.type_inv.text j).fits) in
    let none : size d.run ≡ 0 = sym c.state_count.ensures ∙ c.if-state_count-eq0.true in
    iff_trans (λ h. absurd (true≢false (sym h)), λ (k, y, all, f). absurd (never_found d.run none (text ++ c.args.byte ∷ y) k f)) (goes_on_as d c.args.self.now dfa is text c.args.byte bytes c.ranges.byte.fits)

pub returns-in-Decided-clause-some : goal.returns-in-Decided-clause-some
returns-in-Decided-clause-some c =
    let d = c.deref-dfa.result.now in
    let is = ap (λ (x : DfaValue). x.nfa) c.deref-dfa.ensures ∙ c.self.view_is in
    let dfa : IsDfa d = rw c.deref-dfa.ensures c.self.invariant.0.dfa in
    let text = c.args.text.now in
    let bytes = all_bytes text (λ j. (c.type_inv.text j).fits) in
    let m = d.run in
    iff_trans (decided_after (half m) (IsReached m) text c.args.byte (rw c.in-Decided.is at c.in_ok-read_known.ensures.reached)) (goes_on_as d c.args.self.now dfa is text c.args.byte bytes c.ranges.byte.fits)

pub returns-in-Nothing-clause-some : goal.returns-in-Nothing-clause-some
returns-in-Nothing-clause-some c =
    let d = c.deref-dfa.result.now in
    let is = ap (λ (x : DfaValue). x.nfa) c.deref-dfa.ensures ∙ c.self.view_is in
    let dfa : IsDfa d = rw c.deref-dfa.ensures c.self.invariant.0.dfa in
    let text = c.args.text.now in
    let bytes = all_bytes text (λ j. (c.type_inv.text j).fits) in
    let m = d.run in
    iff_trans (nothing_after (half m) (IsReached m) text c.args.byte (rw c.in-Nothing.is at c.in_ok-read_known.ensures.reached)) (goes_on_as d c.args.self.now dfa is text c.args.byte bytes c.ranges.byte.fits)

pub returns-then-step-clause-some : goal.returns-then-step-clause-some
returns-then-step-clause-some c =
    let d = c.deref-dfa.result.now in
    let is = ap (λ (x : DfaValue). x.nfa) c.deref-dfa.ensures ∙ c.self.view_is in
    let dfa : IsDfa d = rw c.deref-dfa.ensures c.self.invariant.0.dfa in
    let text = c.args.text.now in
    let bytes = all_bytes text (λ j. (c.type_inv.text j).fits) in
    let m = d.run in
    let (i, at, finds) = rw c.in-Row.is at c.in_ok-read_known.ensures.reached in
    let step = c.in_ok-step.ensures.step i at in
    iff_trans (marked_after (half m) (IsReached m) text (AcceptsRow m c.deref-rows.result.now i) finds c.args.byte (step.marks.0 c.if-step.true)) (goes_on_as d c.args.self.now dfa is text c.args.byte bytes c.ranges.byte.fits)

pub returns-in-Some-clause-some : goal.returns-in-Some-clause-some
returns-in-Some-clause-some c =
    let d = c.deref-dfa.result.now in
    let is = ap (λ (x : DfaValue). x.nfa) c.deref-dfa.ensures ∙ c.self.view_is in
    let dfa : IsDfa d = rw c.deref-dfa.ensures c.self.invariant.0.dfa in
    let text = c.args.text.now in
    let bytes = all_bytes text (λ j. (c.type_inv.text j).fits) in
    let m = d.run in
    let rows = c.deref-rows.result.now in
    let (i, at, finds) = rw c.in-Row.is at c.in_ok-read_known.ensures.reached in
    let step = c.in_ok-step.ensures.step i at in
    let (j, there, goes) = rw c.in-Some.is at step.next in
    iff_trans (c.is_live.ensures.some j there)
    (iff_trans (row_after (half m) (IsReached m) text (AcceptsRow m rows i) finds c.args.byte (λ k low a. true≢false (sym (step.marks.1 (k, low, a)) ∙ c.if-step.false)) (AcceptsRow m rows j) goes (λ y k (t, in', a). index_below dfa.runs.sharing m dfa.runs.early k t y a))
    (goes_on_as d c.args.self.now dfa is text c.args.byte bytes c.ranges.byte.fits))

pub returns-in-None-clause-some : goal.returns-in-None-clause-some
returns-in-None-clause-some c =
    let d = c.deref-dfa.result.now in
    let is = ap (λ (x : DfaValue). x.nfa) c.deref-dfa.ensures ∙ c.self.view_is in
    let dfa : IsDfa d = rw c.deref-dfa.ensures c.self.invariant.0.dfa in
    let text = c.args.text.now in
    let bytes = all_bytes text (λ j. (c.type_inv.text j).fits) in
    let m = d.run in
    let (i, at, finds) = rw c.in-Row.is at c.in_ok-read_known.ensures.reached in
    let step = c.in_ok-step.ensures.step i at in
    iff_trans (dead_after (half m) (IsReached m) text (AcceptsRow m c.deref-rows.result.now i) finds c.args.byte (λ k low a. true≢false (sym (step.marks.1 (k, low, a)) ∙ c.if-step.false)) (rw c.in-None.is at step.next))
    (goes_on_as d c.args.self.now dfa is text c.args.byte bytes c.ranges.byte.fits)
