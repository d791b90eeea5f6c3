use Rattle.std.proofs.Common.{ℕ, ◌+◌, ◌<◌, ◌≤◌, length, IsTrue}
use Rattle.bit_sets.specs.Indexes.{has_index}
use Rattle.glob_relations.proofs.ignoring.ignoring_rule.Given as goal

abbrev pub invariant-loop-k : goal.invariant-loop-k
invariant-loop-k l = record {
  within : l.k ≤ length l.ignores;
  none : (j : ℕ) → l.k ≤ j → j < length l.ignores → IsTrue (has_index l.found (l.first + j)) → ⊥;
}

abbrev pub decreases-loop-k : goal.decreases-loop-k
decreases-loop-k l = l.k
