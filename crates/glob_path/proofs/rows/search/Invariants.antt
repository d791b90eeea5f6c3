use Rattle.std.proofs.Common.{◌-◌}
use Rattle.glob_path.proofs.lemmas.Rows.{Halves}
use Rattle.glob_path.proofs.rows.search.Given as goal

abbrev pub invariant-halves : goal.invariant-halves
invariant-halves l = Halves l.bytes l.rows l.key l.low l.high l.fn.compared l.compared

abbrev pub decreases-halves : goal.decreases-halves
decreases-halves l = l.high - l.low
