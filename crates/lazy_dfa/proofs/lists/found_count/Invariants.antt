use Rattle.std.proofs.Common.{◌-◌, length}
use Rattle.bit_sets.specs.Indexes.{AreFound}
use Rattle.lazy_dfa.proofs.lists.found_count.Given as goal

abbrev pub invariant-loop-count : goal.invariant-loop-count
invariant-loop-count l = AreFound l.indexes l.count l.found

abbrev pub decreases-loop-count : goal.decreases-loop-count
decreases-loop-count l = length l.indexes - l.count
