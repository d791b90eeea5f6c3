use Rattle.std.proofs.Common.{◌≡◌, ◌+◌, ap, arith, length, sym, true≢false, ◌∙◌}
use Rattle.bit_sets.proofs.lemmas.Texts.{all_bytes}
use Rattle.lazy_dfa.specs.DfaValue.{DfaValue}
use Rattle.lazy_dfa.specs.inner.Dfa.{IsDfa}
use Rattle.byte_nfa.specs.Steps.{IsReached}
use Rattle.byte_nfa.specs.Runs.{size}
use Rattle.byte_nfa.proofs.lemmas.Pass.{iff_trans}
use Rattle.byte_nfa.specs.EarlyMatches.{half}
use Rattle.lazy_dfa.specs.inner.Rows.{AcceptsRow}
use Rattle.byte_nfa.proofs.lemmas.After.{decided_end, nothing_end, row_end}
use Rattle.byte_nfa.proofs.lemmas.Finding.{some_same}
use Rattle.lazy_dfa.proofs.lemmas.Reading.{bound_as, reads_as}
use Rattle.lazy_dfa.proofs.lemmas.Rows.{never_found}
use Rattle.lazy_dfa.proofs.cache.Cache.is_match.Goals as goal
use Rattle.lazy_dfa.proofs.cache.Cache.is_match.Goals.{in-Decided, in-Nothing, in-Row+in-Some, in-Row+in-None}

pub returns-then-state_count-eq0-clause-some : goal.returns-then-state_count-eq0-clause-some
returns-then-state_count-eq0-clause-some c =
    let d = c.deref-dfa.result.now in
    let is = ap (λ (x : DfaValue). x.nfa) c.deref-dfa.ensures ∙ c.self.view_is in
    let dfa : IsDfa d = rw c.deref-dfa.ensures c.self.invariant.0.dfa in
    let text = c.args.text.now in
    let bytes = all_bytes text (λ j. (c.type_inv.text j).fits) in
    let none : size d.run ≡ 0 = sym c.state_count.ensures ∙ c.if-state_count-eq0.true in
    iff_trans (λ h. absurd (true≢false (sym h)), λ (k, f). absurd (never_found d.run none text k f)) (some_same (reads_as d c.args.self.now dfa is text bytes))

pub invariant_of-self-2 : goal.invariant_of-self-2
invariant_of-self-2 c =
    let sound = rw c.deref-dfa.ensures at c.read.ensures.sound in
    let fits = rw c.deref-dfa.ensures at c.read.ensures.fits in
    elim c.match-read.branch [
      | in-Decided w ↦ rw w.self-inside-is (sound, fits)
      | in-Nothing w ↦ rw w.self-inside-is (sound, fits)
      | in-Row+in-Some w ↦ rw w.self-inside-is (sound, fits)
      | in-Row+in-None w ↦ rw w.self-inside-is (rw c.deref-dfa.ensures at w.finish.ensures.sound, rw c.deref-dfa.ensures at w.finish.ensures.fits)
    ]

pub returns-clause-some : goal.returns-clause-some
returns-clause-some c =
    let d = c.deref-dfa.result.now in
    let is = ap (λ (x : DfaValue). x.nfa) c.deref-dfa.ensures ∙ c.self.view_is in
    let dfa : IsDfa d = rw c.deref-dfa.ensures c.self.invariant.0.dfa in
    let text = c.args.text.now in
    let bytes = all_bytes text (λ j. (c.type_inv.text j).fits) in
    let m = d.run in
    let same = some_same (reads_as d c.args.self.now dfa is text bytes) in
    elim c.match-read.branch [
      | in-Decided w ↦ rw w.result-is (iff_trans (decided_end (half m) (IsReached m) text (rw w.in-Decided.is at c.read.ensures.reached)) same)
      | in-Nothing w ↦ rw w.result-is (iff_trans (nothing_end (half m) (IsReached m) text (rw w.in-Nothing.is at c.read.ensures.reached)) same)
      | in-Row+in-Some w ↦
          let (i, at, finds) = rw w.in-Row.is at c.read.ensures.reached in
          rw w.result-is (iff_trans (rw w.in-Some.is at w.known_end.ensures.some i at) (iff_trans (row_end (half m) (IsReached m) text (AcceptsRow m c.read.new.rows i) finds) same))
      | in-Row+in-None w ↦
          let (i, at, finds) = rw w.in-Row.is at c.read.ensures.reached in
          rw w.result-is (iff_trans (w.finish.ensures.some i at) (iff_trans (row_end (half m) (IsReached m) text (AcceptsRow m c.read.new.rows i) finds) same))
    ]

pub returns-clause-visits : goal.returns-clause-visits
returns-clause-visits c =
    let d = c.deref-dfa.result.now in
    let is = ap (λ (x : DfaValue). x.nfa) c.deref-dfa.ensures ∙ c.self.view_is in
    let bound = bound_as d c.args.self.now c.read.ensures.sound.dfa is (length c.args.text.now + 1) in
    let some : size d.run ≡ 0 → ⊥ = λ none. c.if-state_count-eq0.false (c.state_count.ensures ∙ none) in
    elim c.match-read.branch [
      | in-Decided w ↦ rw w.visits-is (omega (arith, bound, c.read.ensures.visits))
      | in-Nothing w ↦ rw w.visits-is (omega (arith, bound, c.read.ensures.visits))
      | in-Row+in-Some w ↦ rw w.visits-is (let one = rw w.in-Some.is at w.known_end.ensures.visits in omega (arith, bound, some, one, c.read.ensures.visits))
      | in-Row+in-None w ↦ rw w.visits-is (let same = rw w.in-None.is at w.known_end.ensures.visits in omega (arith, bound, same, c.read.ensures.visits, w.finish.ensures.visits))
    ]
