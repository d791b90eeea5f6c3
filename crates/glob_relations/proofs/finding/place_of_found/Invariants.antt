use Rattle.std.proofs.Common.{ℕ, ◌<◌}
use Rattle.std.specs.Prelude.{IsFalse, slice_index}
use Rattle.bit_sets.specs.Indexes.{has_index}
use Rattle.glob_relations.proofs.finding.place_of_found.Given as goal

abbrev pub invariant-loop-place : goal.invariant-loop-place
invariant-loop-place l = (j : ℕ) → j < l.place → IsFalse (has_index l.found (slice_index l.indexes j))
