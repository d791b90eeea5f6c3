use Rattle.std.proofs.Common.{ℕ, sym, subst, ◌∙◌, true≢false}
use Rattle.glob_relations.specs.inner.Rows.{AreStates}
use Rattle.glob_relations.proofs.lemmas.Walks.{next_accepts}
use Rattle.glob_relations.proofs.search.next_row.Goals as goal

pub returns-clause-next : goal.returns-clause-next
returns-clause-next c =
    let list = c.in_ok-states.states.items in
    let steps = rw c.deref.ensures.value at c.step.ensures.steps in (
      subst (λ (x : ℕ). AreStates x list) c.state_count.ensures c.in_ok-states.ensures.states,
      (
        sym c.after.ensures ∙ c.in-Some.is,
        next_accepts c.args.automaton.now c.step.new.to c.state_count.result c.state_count.ensures list c.in_ok-states.ensures.has c.args.row.now.states.items c.args.byte steps,
        λ stopped. true≢false (sym (c.is_stopped.ensures.stopped.1 stopped) ∙ c.if-is_stopped.false),
      ),
    )
