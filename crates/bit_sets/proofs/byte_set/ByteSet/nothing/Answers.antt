use Rattle.bit_sets.proofs.lemmas.Bits.{bit_zeros}
use Rattle.bit_sets.proofs.byte_set.ByteSet.nothing.Goals as goal

pub returns : goal.returns
returns c = λ b. bit_zeros 4 b
