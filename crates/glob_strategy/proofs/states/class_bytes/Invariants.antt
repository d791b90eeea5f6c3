use Rattle.std.proofs.Common.{◌≡◌, ◌<◌, ℕ, false, length, slice_index_or}
use Rattle.glob_syntax.specs.ClassBytes.{class_has}
use Rattle.glob_strategy.proofs.states.class_bytes.Given as goal

abbrev pub invariant-loop-byte : goal.invariant-loop-byte
invariant-loop-byte l = record {
  len : length l.table ≡ 256;
  done : (c : ℕ) → c < l.byte → slice_index_or l.table c false ≡ class_has l.options l.class.negated l.class.ranges c;
}
