use Rattle.std.proofs.Common.{◌≡◌, ℕ, ◌&&◌, false, slice_index_or}
use Rattle.std.specs.Prelude.{nat_lt}
use Rattle.bit_sets.specs.Bits.{bit_of}
use Rattle.bit_sets.proofs.byte_set.ByteSet.from_table.Given as goal

abbrev pub invariant-loop-i : goal.invariant-loop-i
invariant-loop-i l = (k : ℕ) → bit_of l.words k ≡ (nat_lt k l.i && slice_index_or l.table k false)
