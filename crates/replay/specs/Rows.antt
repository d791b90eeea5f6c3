-- Which lines of a file are rows.
use Rattle.std.specs.Prelude.{ℕ, Bool, false, not, ◌==◌, List, [], ◌∷◌}

-- a line that is not empty and does not begin with #
abbrev pub is_row : List ℕ → Bool
is_row [] = false
is_row (b ∷ bs) = not (b == 35)
