use Rattle.std.proofs.Common.{sym, ◌∙◌}
use Rattle.glob_relations.specs.inner.Rows.{AcceptsIn, first_rule}
use Rattle.glob_relations.proofs.lemmas.Closed.{open_end}
use Rattle.glob_relations.proofs.search.is_row_wanted.Goals as goal

pub returns-then-is_last-clause-wanted : goal.returns-then-is_last-clause-wanted
returns-then-is_last-clause-wanted c =
    let wanted = rw c.deref.ensures.value at c.is_wanted.ensures.wanted in (
      λ h. (sym c.is_last.ensures ∙ c.if-is_last.true, wanted.0 h, open_end c.args.question.now.ignores.items first_rule (AcceptsIn c.args.automaton.now c.args.row.now.states.items)),
      λ (ends, w, clear). wanted.1 w,
    )
