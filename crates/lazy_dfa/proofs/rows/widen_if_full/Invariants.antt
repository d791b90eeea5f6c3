use Rattle.std.proofs.Common.{◌<◌, ◌≤◌, length}
use Rattle.lazy_dfa.specs.inner.Index.{AreFound}
use Rattle.lazy_dfa.proofs.rows.widen_if_full.Given as goal

abbrev pub invariant-loop-row : goal.invariant-loop-row
invariant-loop-row l = record {
  some : 0 < length l.table.items;
  within : l.row ≤ length l.starts;
  found : AreFound l.table.items l.seed l.starts l.lists l.row;
}
