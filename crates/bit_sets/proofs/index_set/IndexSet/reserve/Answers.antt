use Rattle.std.proofs.Common.{refl}
use Rattle.bit_sets.proofs.lemmas.FirstWord.{same_bits}
use Rattle.bit_sets.proofs.index_set.IndexSet.reserve.Goals as goal

pub returns-clause-has : goal.returns-clause-has
returns-clause-has c =
    let set = c.args.self.now in
    same_bits set.first c.grow-2.new.words.items set.first set.rest.items set.one set.one (λ k. refl) c.grow-2.ensures.bits
