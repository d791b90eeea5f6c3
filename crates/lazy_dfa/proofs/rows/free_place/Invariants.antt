use Rattle.std.proofs.Common.{ℕ, ◌<◌, length, slice_index}
use Rattle.lazy_dfa.specs.inner.Index.{nth_place}
use Rattle.lazy_dfa.proofs.rows.free_place.Given as goal

abbrev pub invariant-loop-probe : goal.invariant-loop-probe
invariant-loop-probe l = (p : ℕ) → p < l.probe → 0 < slice_index l.table (nth_place l.hash p (length l.table))
