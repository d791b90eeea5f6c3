-- Folders that rules ignore, as an automaton reads paths. Some of its indexes, from `first` on, are those of rules, and a list
-- has a bool for each: whether the rule ignores folders, or keeps them.
use Rattle.std.specs.Prelude.{◌≡◌, ℕ, ◌+◌, ◌<◌, Bool, true, not, List, ◌∷◌, ◌++◌, length, map, Some, slice_get}
use Rattle.ignore_pattern.specs.Patterns.{Pattern}

-- The rule of the number k is the last whose index has the property, and ignores folders.
abbrev pub IsClosedBy : List Bool → ℕ → (ℕ → Type 0) → ℕ → Type 0
IsClosedBy ignores first P k = (slice_get ignores k ≡ Some true) × P (first + k) × ((j : ℕ) → k < j → j < length ignores → P (first + j) → ⊥)

-- The last rule whose index has the property ignores folders, and there is such a rule.
abbrev pub IsClosed : List Bool → ℕ → (ℕ → Type 0) → Type 0
IsClosed ignores first P = (k : ℕ) × IsClosedBy ignores first P k

-- The text does not lead below an ignored folder: what stands before a `/` has no property by which it is closed.
abbrev pub IsOpen : List Bool → ℕ → (List ℕ → ℕ → Type 0) → List ℕ → Type 0
IsOpen ignores first P y = (folder : List ℕ) (rest : List ℕ) → y ≡ folder ++ 47 ∷ rest → IsClosed ignores first (P folder) → ⊥

-- The text leads below a folder that is closed by the rule of the number k.
abbrev pub IsClosedAbove : List Bool → ℕ → (List ℕ → ℕ → Type 0) → List ℕ → ℕ → Type 0
IsClosedAbove ignores first P y k = (folder : List ℕ) × (rest : List ℕ) × (y ≡ folder ++ 47 ∷ rest) × IsClosedBy ignores first (P folder) k

-- which of the rules with these patterns ignore folders
abbrev pub ignores_of : List Pattern → List Bool
ignores_of ps = map (λ p. not p.negated) ps
