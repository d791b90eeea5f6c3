use Rattle.std.proofs.Common.{◌∙◌, false, get_or}
use Rattle.bit_sets.proofs.lemmas.Bits.{bit_zeros, none_yet}
use Rattle.bit_sets.proofs.byte_set.ByteSet.from_table.Goals as goal

pub loop-i-init : goal.loop-i-init
loop-i-init c = λ k. bit_zeros 4 k ∙ none_yet k (get_or c.args.table.now k false)
