-- Shortest texts.
use Rattle.std.specs.Prelude.{ℕ, ◌≤◌, List, length}

-- the text has the property, and is no longer than any other that has it
abbrev pub IsShortest : (List ℕ → Type 0) → List ℕ → Type 0
IsShortest P text = P text × ((other : List ℕ) → P other → length text ≤ length other)
