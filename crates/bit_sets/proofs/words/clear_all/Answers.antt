use Rattle.std.proofs.Common.{◌≡◌, length, replicate}
use Rattle.bit_sets.proofs.lemmas.Bits.{bit_zeros}
use Rattle.bit_sets.proofs.words.clear_all.Goals as goal

pub returns : goal.returns
returns c = λ k.
    let zeros : c.fill.new.self ≡ replicate (length c.args.words.now) 0 = c.fill.ensures.after (λ y e. e) in
    rw zeros (bit_zeros (length c.args.words.now) k)
