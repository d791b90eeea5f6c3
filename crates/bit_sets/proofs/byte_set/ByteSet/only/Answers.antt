use Rattle.std.proofs.Common.{◌||◌, ◌∙◌, ap, eqb}
use Rattle.bit_sets.proofs.lemmas.Bits.{bit_zeros, or_false}
use Rattle.bit_sets.proofs.byte_set.ByteSet.only.Goals as goal

pub returns : goal.returns
returns c = λ b. c.set_bit.ensures b ∙ ap (λ q. eqb b c.args.byte || q) (bit_zeros 4 b) ∙ or_false (eqb b c.args.byte)
