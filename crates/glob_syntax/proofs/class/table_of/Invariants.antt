use Rattle.std.proofs.Common.{◌≡◌, length, take}
use Rattle.glob_syntax.specs.ClassBytes.{ranges_have}
use Rattle.glob_syntax.specs.inner.ClassTable.{Shows}
use Rattle.glob_syntax.proofs.class.table_of.Given as goal

abbrev pub invariant-loop-range : goal.invariant-loop-range
invariant-loop-range l = record {
  shows : Shows (λ b. ranges_have (take l.range-index l.ranges) b) l.table;
  len : length l.table ≡ 256;
}
