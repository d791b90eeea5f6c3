use Rattle.std.proofs.Common.{arith}
use Rattle.bit_sets.proofs.lemmas.Bits.{bit_ones}
use Rattle.bit_sets.proofs.byte_set.ByteSet.everything.Goals as goal

pub returns : goal.returns
returns c = λ b lt. bit_ones 4 b (omega arith)
