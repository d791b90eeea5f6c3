use Rattle.std.proofs.Common.{refl, arith}
use Rattle.bit_sets.proofs.lemmas.Bits.{bit_cleared}
use Rattle.bit_sets.proofs.words.clear_bit.Goals as goal

pub returns : goal.returns
returns c = λ j. bit_cleared c.args.words.now c.args.k _ j (omega arith) refl
