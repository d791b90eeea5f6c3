use Rattle.std.proofs.Common.{ℕ, subst}
use Rattle.glob_relations.specs.declared.rows.SearchRow.{SearchRow}
use Rattle.glob_relations.specs.declared.rows.Origin.{Origin}
use Rattle.glob_relations.specs.inner.Rows.{AreStates}
use Rattle.glob_relations.proofs.lemmas.Rows.{first_sound, first_before}
use Rattle.glob_relations.proofs.lemmas.Walks.{first_accepts}
use Rattle.glob_relations.proofs.search.first_rows.Goals as goal

pub returns-clause-rows : goal.returns-clause-rows
returns-clause-rows c =
    let m = c.args.automaton.now in
    let list = c.in_ok-states.states.items in
    let row : SearchRow = record { place = c.first_place-place.result; states = c.in_ok-states.states } in
    let origin : Origin = record { row = 0; byte = 0 } in
    let states = subst (λ (x : ℕ). AreStates x list) c.state_count.ensures c.in_ok-states.ensures.states in
    first_sound c.new-rows.result c.add.new.self row origin m c.args.question.now c.in_ok-add.ensures c.new-rows.ensures.rows c.new-rows.ensures.origins states
    (c.first_place-place.ensures, first_accepts m c.start.new.into c.state_count.result c.state_count.ensures list c.in_ok-states.ensures.has c.start.ensures.starts)
