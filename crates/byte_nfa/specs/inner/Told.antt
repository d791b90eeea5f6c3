-- What ends tell, of which those of an index from h on say that an index is decided.
use Rattle.std.specs.Prelude.{◌≡◌, ℕ, ◌+◌, ◌<◌, ◌≤◌, ◌⊎◌}

-- an end of the index i tells k: it is the end of k, or says that k is decided
abbrev pub Tells : ℕ → ℕ → ℕ → Type 0
Tells h i k = (k < h) × ((i ≡ k) ⊎ (i ≡ h + k))

-- an end of an index from the lowest on, of those with the property, tells k
abbrev pub ToldBy : ℕ → (ℕ → Type 0) → ℕ → ℕ → Type 0
ToldBy h P lowest k = (i : ℕ) × (lowest ≤ i) × Tells h i k × P i
