use Rattle.std.proofs.Common.{◌≡◌, take}
use Rattle.bit_sets.specs.Indexes.{index_capacity, HasAlso}
use Rattle.bit_sets.proofs.index_set.IndexSet.put_all.Given as goal

abbrev pub invariant-loop-index : goal.invariant-loop-index
invariant-loop-index l = record {
  room : index_capacity l.self ≡ index_capacity l.fn.self;
  has : HasAlso l.fn.self l.self (take l.index-index l.indexes);
}
