use Rattle.std.proofs.Common.{◌≡◌, ℕ, ◌+◌, ◌<◌, length, slice_index}
use Rattle.lazy_dfa.specs.inner.Index.{nth_place}
use Rattle.lazy_dfa.specs.inner.Rows.{states_of}
use Rattle.lazy_dfa.proofs.rows.Rows.known.Given as goal

-- the places that were looked at hold rows of other lists
abbrev pub invariant-loop-probe : goal.invariant-loop-probe
invariant-loop-probe l = (p : ℕ) → p < l.probe
    → (0 < slice_index l.self.table.items (nth_place l.hash p (length l.self.table.items)))
    × ((i : ℕ) → i < length l.self.starts.items → slice_index l.self.table.items (nth_place l.hash p (length l.self.table.items)) ≡ i + 1 → states_of l.self i ≡ l.list → ⊥)
