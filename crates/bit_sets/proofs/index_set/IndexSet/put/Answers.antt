-- An index is put in: into the first word, or into the rest.
use Rattle.std.proofs.Common.{ap, ◌∙◌, ◌++◌}
use Rattle.bit_sets.specs.Bits.{bit_of}
use Rattle.bit_sets.proofs.lemmas.FirstWord.{first_set, rest_set}
use Rattle.bit_sets.proofs.index_set.IndexSet.put.Goals as goal

pub returns-then-index-lt64-clause-has : goal.returns-then-index-lt64-clause-has
returns-then-index-lt64-clause-has c =
    let set = c.args.self.now in
    first_set set.first set.rest.items c.set_bit.new.words c.args.index set.one (c.set_bit.auto.words ∙ set.one) c.if-index-lt64.true c.set_bit.ensures

pub returns-else-index-lt64-clause-has : goal.returns-else-index-lt64-clause-has
returns-else-index-lt64-clause-has c =
    let set = c.args.self.now in
    let put = c.put_in_rest in
    λ k. ap (λ first. bit_of (first ++ put.new.self.rest.items) k) put.ensures.first
    ∙ rest_set set.first set.rest.items put.new.self.rest.items c.args.index set.one c.if-index-lt64.false put.ensures.bits k
