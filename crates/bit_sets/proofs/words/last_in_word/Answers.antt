use Rattle.std.proofs.Common.{◌/◌, refl, arith}
use Rattle.bit_sets.proofs.lemmas.Bits.{none_up_to, top_up_to}
use Rattle.bit_sets.proofs.words.last_in_word.Goals as goal

pub returns-then-word-eq0 : goal.returns-then-word-eq0
returns-then-word-eq0 c = none_up_to c.args.words.now c.args.to _ refl c.if-word-eq0.true

pub returns : goal.returns
returns c = top_up_to c.args.words.now c.args.to _ refl (omega (arith, c.type_inv.words (c.args.to / 64))) (omega arith)
