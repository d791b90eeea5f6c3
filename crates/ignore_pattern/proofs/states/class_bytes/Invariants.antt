use Rattle.std.proofs.Common.{◌≡◌, ◌<◌, ℕ, false, length, slice_index_or}
use Rattle.ignore_pattern.specs.Classes.{class_matches}
use Rattle.ignore_pattern.proofs.states.class_bytes.Given as goal

abbrev pub invariant-loop-byte : goal.invariant-loop-byte
invariant-loop-byte l = record {
  len : length l.table ≡ 256;
  done : (c : ℕ) → c < l.byte → slice_index_or l.table c false ≡ class_matches l.ignore_case l.negated l.items c;
}
