use Rattle.std.proofs.Common.{length, ◌-◌, ℕ, ◌<◌, ◌≤◌, slice_index}
use Rattle.glob_path.proofs.rows.skip_below.Given as goal

abbrev pub invariant-loop-at : goal.invariant-loop-at
invariant-loop-at l = (l.at ≤ length l.buckets) × ((k : ℕ) → k < l.at → slice_index l.buckets k < l.bucket)

abbrev pub decreases-loop-at : goal.decreases-loop-at
decreases-loop-at l = length l.buckets - l.at
