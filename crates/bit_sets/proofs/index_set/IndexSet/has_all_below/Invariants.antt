use Rattle.std.proofs.Common.{ℕ, ◌<◌}
use Rattle.std.specs.Prelude.{IsTrue}
use Rattle.bit_sets.specs.Indexes.{has_index}
use Rattle.bit_sets.proofs.index_set.IndexSet.has_all_below.Given as goal

abbrev pub invariant-loop-index : goal.invariant-loop-index
invariant-loop-index l = (k : ℕ) → k < l.index → IsTrue (has_index l.self k)
