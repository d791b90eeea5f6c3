use Rattle.std.proofs.Common.{◌≡◌, ◌++◌, ◌-◌, replicate, arith}
use Rattle.std.proofs.lemmas.List.{take_all}
use Rattle.bit_sets.proofs.lemmas.Bits.{bit_grown}
use Rattle.bit_sets.proofs.words.grow.Goals as goal

pub returns-in_ok-resize-clause-bits : goal.returns-in_ok-resize-clause-bits
returns-in_ok-resize-clause-bits c = λ k.
    let old = c.args.words.now.items in
    let all = take_all c.args.count old (omega arith) in
    let grown : c.resize.new.self.items ≡ old ++ replicate (c.args.count - c.args.words.now.len) 0 = rw all at c.in_ok-resize.ensures.items in
    rw grown (bit_grown old (c.args.count - c.args.words.now.len) k)
