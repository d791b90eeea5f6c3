use Rattle.std.proofs.Common.{take}
use Rattle.glob_path.specs.inner.Ends.{HasEnds}
use Rattle.glob_path.proofs.rows.ends_of.Given as goal

abbrev pub invariant-loop-row : goal.invariant-loop-row
invariant-loop-row l = HasEnds l.bytes (take l.row-index l.rows) l.ends
