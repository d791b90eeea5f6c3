use Rattle.std.proofs.Common.{refl}
use Rattle.bit_sets.proofs.lemmas.Bits.{bit_read}
use Rattle.bit_sets.proofs.words.has_bit.Goals as goal

pub returns : goal.returns
returns c = bit_read c.args.words.now c.args.k _ refl
