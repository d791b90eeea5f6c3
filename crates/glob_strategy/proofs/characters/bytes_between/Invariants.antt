use Rattle.std.proofs.Common.{◌≡◌, ◌<◌, ℕ, false, length, slice_index_or}
use Rattle.glob_syntax.specs.Characters.{is_between}
use Rattle.glob_strategy.proofs.characters.bytes_between.Given as goal

abbrev pub invariant-loop-byte : goal.invariant-loop-byte
invariant-loop-byte l = record {
  len : length l.table ≡ 256;
  done : (c : ℕ) → c < l.byte → slice_index_or l.table c false ≡ is_between (l.first, l.last) c;
}
