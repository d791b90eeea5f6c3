-- Which statuses a call returns.
use Rattle.std.specs.Prelude.{ℕ, Bool, false, ◌==◌, ◌||◌, List, [], ◌∷◌, IsTrue}

-- the test whether the number is among these
abbrev is_one_of : List ℕ → ℕ → Bool
is_one_of [] n = false
is_one_of (m ∷ ms) n = (n == m) || is_one_of ms n

-- the number is among these
abbrev pub IsOneOf : List ℕ → ℕ → Type 0
IsOneOf ms n = IsTrue (is_one_of ms n)
