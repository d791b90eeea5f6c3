use Rattle.std.proofs.Common.{take, ◌≤◌, ◌+◌}
use Rattle.glob_path.specs.inner.Rows.{HasNoRow}
use Rattle.glob_path.proofs.rows.scan.Given as goal

abbrev pub invariant-loop-row : goal.invariant-loop-row
invariant-loop-row l = HasNoRow l.bytes (take l.row-index l.rows) l.key × (l.compared ≤ l.fn.compared + l.row-index) × (l.fn.compared ≤ l.compared)
