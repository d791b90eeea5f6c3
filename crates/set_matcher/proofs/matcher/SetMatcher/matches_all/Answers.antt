use Rattle.std.proofs.Common.{◌≡◌, ◌≤◌, ◌+◌, ◌*◌, length, ap, sym, subst, arith, ◌∙◌}
use Rattle.std.specs.Prelude.{◌↔◌, IsTrue}
use Rattle.bit_sets.specs.Indexes.{has_index, index_capacity}
use Rattle.set_matcher.specs.inner.TokenGlobs.{reported_indexes, token_globs}
use Rattle.set_matcher.specs.SetMatcherValue.{SetMatcherValue, matcher_globs}
use Rattle.set_matcher.specs.Indexes.{ContainsAllBelow}
use Rattle.set_matcher.specs.inner.Automata.{AreIdle, AutomataParts, automata_or_none, reads_for}
use Rattle.set_matcher.specs.inner.SetMatcher.{IsSetMatcherOf, set_matcher_parts}
use Rattle.set_matcher.proofs.lemmas.Given.{all_is, globs_count, with_stored}
use Rattle.set_matcher.proofs.lemmas.Matching.{all_by_keys, all_marked, marked_listed}
use Rattle.set_matcher.proofs.lemmas.NoAutomata.{kept_is, none_idle}
use Rattle.set_matcher.proofs.matcher.SetMatcher.matches_all.Goals as goal
use Rattle.set_matcher.proofs.matcher.SetMatcher.matches_all.Goals.{in-Some+in_ok-find+else-branch, in_default}

pub returns-then-branch-clause-all : goal.returns-then-branch-clause-all
returns-then-branch-clause-all c =
    let text = c.parts_of-parts.result in
    let globs = token_globs c.self.inside.globs in
    let automata = c.deref.result.now in
    let g = set_matcher_parts c.self.inside.keys automata in
    let is = kept_is c.self.inside.len c.in-Some.is c.deref.ensures in
    let indexes = ap (λ (a : AutomataParts). a.extensions.index_count) is in
    let matcher = subst (λ a. IsSetMatcherOf globs (set_matcher_parts c.self.inside.keys a)) is c.self.invariant.of_globs.matcher in
    let count = ap (λ (v : SetMatcherValue). length (matcher_globs v)) c.self.view_is in
    let n : length globs ≡ c.len.result = omega (arith, globs_count c.self.inside.globs, count, c.len.ensures.count) in
    let by_automata = c.in_ok-find.ensures.found c.if-branch.true in
    let fits : length globs ≤ index_capacity c.find.new.marks =
    omega (arith, globs_count c.self.inside.globs, c.self.invariant.of_globs.counted, c.self.invariant.of_globs.indexed, indexes, by_automata.room) in
    let marked = marked_listed globs g text (index_capacity c.find.new.marks) (has_index c.find.new.marks) (has_index c.find-then-branch.new.found) matcher fits (by_automata.same matcher.tokens matcher.are_for) c.find-then-branch.ensures.found in
    let all = all_marked globs text c.len.result (has_index c.find-then-branch.new.found) n marked in
    all_is c.has_all_below.result (ap matcher_globs c.self.view_is) (c.parts_of-parts.ensures.path ∙ c.path.ensures)
    (λ yes. all.0 (c.has_all_below.ensures.0 yes), λ every. c.has_all_below.ensures.1 (all.1 every))

pub returns-clause-all : goal.returns-clause-all
returns-clause-all c =
    let text = c.parts_of-parts.result in
    let globs = token_globs c.self.inside.globs in
    let indexes = c.self.inside.len in
    let automata = automata_or_none indexes c.self.inside.automata in
    let count = ap (λ (v : SetMatcherValue). length (matcher_globs v)) c.self.view_is in
    let n : length globs ≡ c.len-2.result = omega (arith, globs_count c.self.inside.globs, count, c.len-2.ensures.count) in
    let idle : AreIdle automata text = elim c.match-self.branch [
      | in-Some+in_ok-find+else-branch w ↦ subst (λ a. AreIdle a text) (sym (kept_is indexes w.in-Some.is w.deref.ensures)) (w.in_ok-find.ensures.idle w.if-branch.false)
      | in_default w ↦ none_idle indexes text w.in_default.is c.parts_of-parts.ensures.bytes
    ] in
    all_is c.eq.result (ap matcher_globs c.self.view_is) (c.parts_of-parts.ensures.path ∙ c.path.ensures)
    (subst (λ b. IsTrue b ↔ ContainsAllBelow (reported_indexes globs text) (length globs)) (sym c.eq.ensures)
    (all_by_keys globs (set_matcher_parts c.self.inside.keys automata) text c.len-2.result c.count_found.result c.self.invariant.of_globs.matcher idle n c.len-2.type_inv c.count_found.ensures.count))

pub returns-in_err-find-clause-visits : goal.returns-in_err-find-clause-visits
returns-in_err-find-clause-visits c =
    let globs = token_globs c.self.inside.globs in
    let matcher = subst (λ a. IsSetMatcherOf globs (set_matcher_parts c.self.inside.keys a)) (kept_is c.self.inside.len c.in-Some.is c.deref.ensures) c.self.invariant.of_globs.matcher in
    with_stored c.self.inside.globs (matcher_globs c.args.self.now) (set_matcher_parts c.self.inside.keys c.deref.result.now) c.args.path.now c.parts_of-parts.result c.args.visits.now c.find.new.visits
    (ap matcher_globs c.self.view_is) (c.parts_of-parts.ensures.path ∙ c.path.ensures) matcher c.self.invariant.of_globs.size (omega (arith, c.find.ensures.visits))

pub returns-then-branch-clause-visits : goal.returns-then-branch-clause-visits
returns-then-branch-clause-visits c =
    let globs = token_globs c.self.inside.globs in
    let matcher = subst (λ a. IsSetMatcherOf globs (set_matcher_parts c.self.inside.keys a)) (kept_is c.self.inside.len c.in-Some.is c.deref.ensures) c.self.invariant.of_globs.matcher in
    with_stored c.self.inside.globs (matcher_globs c.args.self.now) (set_matcher_parts c.self.inside.keys c.deref.result.now) c.args.path.now c.parts_of-parts.result c.args.visits.now c.find-then-branch.new.visits
    (ap matcher_globs c.self.view_is) (c.parts_of-parts.ensures.path ∙ c.path.ensures) matcher c.self.invariant.of_globs.size (omega (arith, c.find.ensures.visits, c.find-then-branch.ensures.visits))

pub returns-clause-visits : goal.returns-clause-visits
returns-clause-visits c =
    let n = c.self.inside.len in
    let automata = automata_or_none n c.self.inside.automata in
    let text = c.parts_of-parts.result in
    let run : c.match-self.visits ≤ c.args.visits.now + (1 + (length text + 1) * reads_for automata text) = elim c.match-self.branch [
      | in-Some+in_ok-find+else-branch w ↦ subst (λ v. v ≤ c.args.visits.now + (1 + (length text + 1) * reads_for automata text)) (sym w.visits-is)
          (subst (λ a. w.find.new.visits ≤ c.args.visits.now + (1 + (length text + 1) * reads_for a text)) (sym (kept_is n w.in-Some.is w.deref.ensures)) w.find.ensures.visits)
      | in_default w ↦ omega (arith, w.visits-is)
    ] in
    with_stored c.self.inside.globs (matcher_globs c.args.self.now) (set_matcher_parts c.self.inside.keys automata) c.args.path.now text c.args.visits.now c.count_found.new.visits
    (ap matcher_globs c.self.view_is) (c.parts_of-parts.ensures.path ∙ c.path.ensures) c.self.invariant.of_globs.matcher c.self.invariant.of_globs.size (omega (arith, run, c.count_found.ensures.visits))
