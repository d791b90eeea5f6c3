use Rattle.std.proofs.Common.{◌≡◌, ◌≤◌, ◌+◌, ◌*◌, ℕ, List, false, true, length, ap, sym, subst, true≢false, arith, ◌∙◌}
use Rattle.std.specs.Prelude.{◌↔◌, IsTrue}
use Rattle.bit_sets.specs.Indexes.{has_index, index_capacity}
use Rattle.bit_sets.specs.declared.index_set.IndexSet.{IndexSet}
use Rattle.set_matcher.specs.inner.TokenGlobs.{TokenGlob, token_globs}
use Rattle.set_matcher.specs.SetMatcherValue.{SetMatcherValue, matcher_globs}
use Rattle.set_matcher.specs.inner.Automata.{AreFound, AreIdle, IsFoundSet, automata_or_none, reads_for}
use Rattle.set_matcher.specs.inner.SetMatcher.{IsSetMatcherOf, SetMatcherParts, set_matcher_parts}
use Rattle.set_matcher.proofs.lemmas.LiteralIndex.{nothing_if}
use Rattle.set_matcher.proofs.lemmas.Given.{found_is, globs_count, with_stored}
use Rattle.set_matcher.proofs.lemmas.Matching.{marked_are, marked_listed, nothing_listed}
use Rattle.set_matcher.proofs.lemmas.NoAutomata.{kept_is, none_idle}
use Rattle.set_matcher.proofs.matcher.SetMatcher.find.Goals as goal
use Rattle.set_matcher.proofs.matcher.SetMatcher.find.Goals.{in-Some+in_ok-are_run-in-Some, in-None, then-not-are_run+else-is_empty+in_ok-reserve, else-not-are_run}

-- the set has the indexes that the automata find, and room for every index
abbrev IsMarked : (globs : List TokenGlob) (g : SetMatcherParts) → IsSetMatcherOf globs g → List ℕ → IndexSet → Type 0
IsMarked globs g are text marks = (length globs ≤ index_capacity marks) × ((k : ℕ) → IsTrue (has_index marks k) ↔ AreFound g.automata.extensions.slots are.tokens text k)

pub returns-clause-ok : goal.returns-clause-ok
returns-clause-ok c =
    let text = c.parts_of-parts.result in
    let globs = token_globs c.self.inside.globs in
    let n = c.self.inside.len in
    let automata = automata_or_none n c.self.inside.automata in
    let g = set_matcher_parts c.self.inside.keys automata in
    let of_globs = c.self.invariant.of_globs in
    let matcher = of_globs.matcher in
    let Ready = IsMarked globs g matcher text in
    let idle : c.match-self.are_run ≡ false → AreIdle automata text = (λ off. elim c.match-self.branch [
      | in-Some+in_ok-are_run-in-Some w ↦ subst (λ a. AreIdle a text) (sym (kept_is n w.in-Some.is w.deref.ensures)) (w.in_ok-are_run-in-Some.ensures.idle (sym w.are_run-is ∙ off))
      | in-None w ↦ none_idle n text w.in-None.is c.parts_of-parts.ensures.bytes
    ]) in
    let run : c.match-self.are_run ≡ true → IsFoundSet automata text c.match-self.marks = (λ on. elim c.match-self.branch [
      | in-Some+in_ok-are_run-in-Some w ↦ subst (λ a. IsFoundSet a text c.match-self.marks) (sym (kept_is n w.in-Some.is w.deref.ensures))
          (subst (λ s. IsFoundSet w.deref.result.now text s) (sym w.marks-is) (w.in_ok-are_run-in-Some.ensures.found (sym w.are_run-is ∙ on)))
      | in-None w ↦ absurd (true≢false (sym on ∙ w.are_run-is))
    ]) in
    let ready : Ready c.if-not-are_run.marks = elim c.if-not-are_run.branch [
      | then-not-are_run+else-is_empty+in_ok-reserve w ↦ subst Ready (sym w.marks-is) (
        omega (arith, globs_count c.self.inside.globs, of_globs.counted, of_globs.indexed, c.self.invariant.count, w.in_ok-reserve.ensures.ok),
        λ k. (λ yes. absurd (true≢false (sym yes ∙ w.reserve.ensures.has k ∙ w.clear-then-not-are_run.ensures.none k)), λ found. absurd ((idle w.if-not-are_run.true).none matcher.tokens matcher.are_for k found)),
      )
      | else-not-are_run w ↦ subst Ready (sym w.marks-is) (
          let by_automata = run w.if-not-are_run.false in (
            omega (arith, globs_count c.self.inside.globs, of_globs.counted, of_globs.indexed, by_automata.room),
            by_automata.same matcher.tokens matcher.are_for,
          )
          )
    ] in
    let marked = marked_listed globs g text (index_capacity c.if-not-are_run.marks) (has_index c.if-not-are_run.marks) (has_index c.find-2.new.found) matcher ready.0 ready.1 c.find-2.ensures.found in
    let count = ap (λ (v : SetMatcherValue). length (matcher_globs v)) c.self.view_is in
    let all : length globs ≡ c.len.result = omega (arith, globs_count c.self.inside.globs, count, c.len.ensures.count) in
    c.in_default.ensures.pushed ∙ marked_are globs text c.len.result (has_index c.find-2.new.found) all marked
    ∙ found_is (ap matcher_globs c.self.view_is) (c.parts_of-parts.ensures.path ∙ c.path.ensures)

pub returns-then-is_empty-clause-ok : goal.returns-then-is_empty-clause-ok
returns-then-is_empty-clause-ok c =
    let text = c.parts_of-parts.result in
    let globs = token_globs c.self.inside.globs in
    let n = c.self.inside.len in
    let automata = automata_or_none n c.self.inside.automata in
    let g = set_matcher_parts c.self.inside.keys automata in
    let idle : AreIdle automata text = elim c.match-self.branch [
      | in-Some+in_ok-are_run-in-Some w ↦ subst (λ a. AreIdle a text) (sym (kept_is n w.in-Some.is w.deref.ensures)) (w.in_ok-are_run-in-Some.ensures.idle (sym w.are_run-is ∙ c.if-not-are_run.true))
      | in-None w ↦ none_idle n text w.in-None.is c.parts_of-parts.ensures.bytes
    ] in
    let none = nothing_listed globs g text c.self.invariant.of_globs.matcher idle (nothing_if c.self.inside.keys (c.is_empty.ensures.0 c.if-is_empty.true) text) in
    c.clear.ensures.items ∙ sym none ∙ found_is (ap matcher_globs c.self.view_is) (c.parts_of-parts.ensures.path ∙ c.path.ensures)

pub returns-then-is_empty-clause-visits : goal.returns-then-is_empty-clause-visits
returns-then-is_empty-clause-visits c =
    let n = c.self.inside.len in
    let automata = automata_or_none n c.self.inside.automata in
    let text = c.parts_of-parts.result in
    let run : c.match-self.visits ≤ c.args.visits.now + (1 + (length text + 1) * reads_for automata text) = elim c.match-self.branch [
      | in-Some+in_ok-are_run-in-Some w ↦ subst (λ v. v ≤ c.args.visits.now + (1 + (length text + 1) * reads_for automata text)) (sym w.visits-is)
          (subst (λ a. w.find.new.visits ≤ c.args.visits.now + (1 + (length text + 1) * reads_for a text)) (sym (kept_is n w.in-Some.is w.deref.ensures)) w.find.ensures.visits)
      | in-None w ↦ omega (arith, w.visits-is)
    ] in
    with_stored c.self.inside.globs (matcher_globs c.args.self.now) (set_matcher_parts c.self.inside.keys automata) c.args.path.now text c.args.visits.now c.match-self.visits
    (ap matcher_globs c.self.view_is) (c.parts_of-parts.ensures.path ∙ c.path.ensures) c.self.invariant.of_globs.matcher c.self.invariant.of_globs.size (omega (arith, run))

pub returns-in_err-are_run-in-Some-clause-visits : goal.returns-in_err-are_run-in-Some-clause-visits
returns-in_err-are_run-in-Some-clause-visits c =
    let globs = token_globs c.self.inside.globs in
    let matcher = subst (λ a. IsSetMatcherOf globs (set_matcher_parts c.self.inside.keys a)) (kept_is c.self.inside.len c.in-Some.is c.deref.ensures) c.self.invariant.of_globs.matcher in
    with_stored c.self.inside.globs (matcher_globs c.args.self.now) (set_matcher_parts c.self.inside.keys c.deref.result.now) c.args.path.now c.parts_of-parts.result c.args.visits.now c.find.new.visits
    (ap matcher_globs c.self.view_is) (c.parts_of-parts.ensures.path ∙ c.path.ensures) matcher c.self.invariant.of_globs.size (omega (arith, c.find.ensures.visits))

pub returns-in_err-reserve-clause-visits : goal.returns-in_err-reserve-clause-visits
returns-in_err-reserve-clause-visits c =
    let n = c.self.inside.len in
    let automata = automata_or_none n c.self.inside.automata in
    let text = c.parts_of-parts.result in
    let run : c.match-self.visits ≤ c.args.visits.now + (1 + (length text + 1) * reads_for automata text) = elim c.match-self.branch [
      | in-Some+in_ok-are_run-in-Some w ↦ subst (λ v. v ≤ c.args.visits.now + (1 + (length text + 1) * reads_for automata text)) (sym w.visits-is)
          (subst (λ a. w.find.new.visits ≤ c.args.visits.now + (1 + (length text + 1) * reads_for a text)) (sym (kept_is n w.in-Some.is w.deref.ensures)) w.find.ensures.visits)
      | in-None w ↦ omega (arith, w.visits-is)
    ] in
    with_stored c.self.inside.globs (matcher_globs c.args.self.now) (set_matcher_parts c.self.inside.keys automata) c.args.path.now text c.args.visits.now c.match-self.visits
    (ap matcher_globs c.self.view_is) (c.parts_of-parts.ensures.path ∙ c.path.ensures) c.self.invariant.of_globs.matcher c.self.invariant.of_globs.size (omega (arith, run))

pub returns-in-Err-clause-visits : goal.returns-in-Err-clause-visits
returns-in-Err-clause-visits c =
    let n = c.self.inside.len in
    let automata = automata_or_none n c.self.inside.automata in
    let text = c.parts_of-parts.result in
    let run : c.match-self.visits ≤ c.args.visits.now + (1 + (length text + 1) * reads_for automata text) = elim c.match-self.branch [
      | in-Some+in_ok-are_run-in-Some w ↦ subst (λ v. v ≤ c.args.visits.now + (1 + (length text + 1) * reads_for automata text)) (sym w.visits-is)
          (subst (λ a. w.find.new.visits ≤ c.args.visits.now + (1 + (length text + 1) * reads_for a text)) (sym (kept_is n w.in-Some.is w.deref.ensures)) w.find.ensures.visits)
      | in-None w ↦ omega (arith, w.visits-is)
    ] in
    with_stored c.self.inside.globs (matcher_globs c.args.self.now) (set_matcher_parts c.self.inside.keys automata) c.args.path.now text c.args.visits.now c.find-2.new.visits
    (ap matcher_globs c.self.view_is) (c.parts_of-parts.ensures.path ∙ c.path.ensures) c.self.invariant.of_globs.matcher c.self.invariant.of_globs.size (omega (arith, run, c.find-2.ensures.visits))

pub returns-clause-visits : goal.returns-clause-visits
returns-clause-visits c =
    let n = c.self.inside.len in
    let automata = automata_or_none n c.self.inside.automata in
    let text = c.parts_of-parts.result in
    let run : c.match-self.visits ≤ c.args.visits.now + (1 + (length text + 1) * reads_for automata text) = elim c.match-self.branch [
      | in-Some+in_ok-are_run-in-Some w ↦ subst (λ v. v ≤ c.args.visits.now + (1 + (length text + 1) * reads_for automata text)) (sym w.visits-is)
          (subst (λ a. w.find.new.visits ≤ c.args.visits.now + (1 + (length text + 1) * reads_for a text)) (sym (kept_is n w.in-Some.is w.deref.ensures)) w.find.ensures.visits)
      | in-None w ↦ omega (arith, w.visits-is)
    ] in
    with_stored c.self.inside.globs (matcher_globs c.args.self.now) (set_matcher_parts c.self.inside.keys automata) c.args.path.now text c.args.visits.now c.find-2.new.visits
    (ap matcher_globs c.self.view_is) (c.parts_of-parts.ensures.path ∙ c.path.ensures) c.self.invariant.of_globs.matcher c.self.invariant.of_globs.size (omega (arith, run, c.find-2.ensures.visits))
