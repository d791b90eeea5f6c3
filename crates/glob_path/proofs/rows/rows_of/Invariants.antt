use Rattle.glob_path.proofs.lemmas.Groups.{Grouped}
use Rattle.glob_path.proofs.rows.rows_of.Given as goal

abbrev pub invariant-loop-at : goal.invariant-loop-at
invariant-loop-at l = Grouped l.bytes l.pairs l.rows.items l.from l.at
