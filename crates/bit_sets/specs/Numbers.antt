-- Lists of numbers.
use Rattle.std.specs.Prelude.{ℕ, ◌<◌, ◌||◌, ◌==◌, Bool, false, List, [], ◌∷◌, length, slice_index}

-- whether the list has the number n
abbrev pub has_number : ℕ → List ℕ → Bool
has_number n [] = false
has_number n (x ∷ xs) = (n == x) || has_number n xs

-- each of the numbers is below high
abbrev pub AreBelow : ℕ → List ℕ → Type 0
AreBelow high ns = (i : ℕ) → i < length ns → slice_index ns i < high
