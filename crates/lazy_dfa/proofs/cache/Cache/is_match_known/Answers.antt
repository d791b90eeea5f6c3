use Rattle.std.proofs.Common.{◌≡◌, ap, sym, true≢false, ◌∙◌}
use Rattle.bit_sets.proofs.lemmas.Texts.{all_bytes}
use Rattle.lazy_dfa.specs.DfaValue.{DfaValue}
use Rattle.lazy_dfa.specs.inner.Dfa.{IsDfa}
use Rattle.byte_nfa.specs.Steps.{IsReached}
use Rattle.byte_nfa.specs.Runs.{size}
use Rattle.byte_nfa.proofs.lemmas.Pass.{iff_trans}
use Rattle.byte_nfa.specs.EarlyMatches.{half}
use Rattle.lazy_dfa.specs.inner.Rows.{AcceptsRow}
use Rattle.byte_nfa.proofs.lemmas.After.{decided_end, nothing_end, row_end}
use Rattle.byte_nfa.proofs.lemmas.Finding.{some_same}
use Rattle.lazy_dfa.proofs.lemmas.Reading.{answer_same, reads_as}
use Rattle.lazy_dfa.proofs.lemmas.Rows.{never_found}
use Rattle.lazy_dfa.proofs.cache.Cache.is_match_known.Goals as goal

pub returns-then-state_count-eq0-clause-some : goal.returns-then-state_count-eq0-clause-some
returns-then-state_count-eq0-clause-some c =
    let d = c.deref-dfa.result.now in
    let is = ap (λ (x : DfaValue). x.nfa) c.deref-dfa.ensures ∙ c.self.view_is in
    let dfa : IsDfa d = rw c.deref-dfa.ensures c.self.invariant.0.dfa in
    let text = c.args.text.now in
    let bytes = all_bytes text (λ j. (c.type_inv.text j).fits) in
    let none : size d.run ≡ 0 = sym c.state_count.ensures ∙ c.if-state_count-eq0.true in
    iff_trans (λ h. absurd (true≢false (sym h)), λ (k, f). absurd (never_found d.run none text k f)) (some_same (reads_as d c.args.self.now dfa is text bytes))

pub returns-in-Decided-clause-some : goal.returns-in-Decided-clause-some
returns-in-Decided-clause-some c =
    let d = c.deref-dfa.result.now in
    let is = ap (λ (x : DfaValue). x.nfa) c.deref-dfa.ensures ∙ c.self.view_is in
    let dfa : IsDfa d = rw c.deref-dfa.ensures c.self.invariant.0.dfa in
    let text = c.args.text.now in
    let bytes = all_bytes text (λ j. (c.type_inv.text j).fits) in
    let m = d.run in
    iff_trans (decided_end (half m) (IsReached m) text (rw c.in-Decided.is at c.in_ok-read_known.ensures.reached)) (some_same (reads_as d c.args.self.now dfa is text bytes))

pub returns-in-Nothing-clause-some : goal.returns-in-Nothing-clause-some
returns-in-Nothing-clause-some c =
    let d = c.deref-dfa.result.now in
    let is = ap (λ (x : DfaValue). x.nfa) c.deref-dfa.ensures ∙ c.self.view_is in
    let dfa : IsDfa d = rw c.deref-dfa.ensures c.self.invariant.0.dfa in
    let text = c.args.text.now in
    let bytes = all_bytes text (λ j. (c.type_inv.text j).fits) in
    let m = d.run in
    iff_trans (nothing_end (half m) (IsReached m) text (rw c.in-Nothing.is at c.in_ok-read_known.ensures.reached)) (some_same (reads_as d c.args.self.now dfa is text bytes))

pub returns-in-Row-clause-some : goal.returns-in-Row-clause-some
returns-in-Row-clause-some c =
    let d = c.deref-dfa.result.now in
    let is = ap (λ (x : DfaValue). x.nfa) c.deref-dfa.ensures ∙ c.self.view_is in
    let dfa : IsDfa d = rw c.deref-dfa.ensures c.self.invariant.0.dfa in
    let text = c.args.text.now in
    let bytes = all_bytes text (λ j. (c.type_inv.text j).fits) in
    let m = d.run in
    let (i, at, finds) = rw c.in-Row.is at c.in_ok-read_known.ensures.reached in
    answer_same c.known_end.result (iff_trans (row_end (half m) (IsReached m) text (AcceptsRow m c.deref-rows.result.now i) finds) (some_same (reads_as d c.args.self.now dfa is text bytes))) (c.known_end.ensures.some i at)
