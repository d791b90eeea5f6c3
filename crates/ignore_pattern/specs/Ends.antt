-- The two ends of a list of bytes or characters.
use Rattle.std.specs.Prelude.{ℕ, Bool, false, ◌==◌, List, [], ◌∷◌, if◌then◌else◌}

-- this is the first
abbrev pub begins_with : ℕ → List ℕ → Bool
begins_with c [] = false
begins_with c (d ∷ ds) = c == d

-- the others, if this is the first, and otherwise all
abbrev pub without_first : ℕ → List ℕ → List ℕ
without_first c [] = []
without_first c (d ∷ ds) = if c == d then ds else d ∷ ds

-- the others, if this is the last, and otherwise all
abbrev pub without_last : ℕ → List ℕ → List ℕ
without_last c [] = []
without_last c (d ∷ []) = if c == d then [] else d ∷ []
without_last c (d ∷ e ∷ es) = d ∷ without_last c (e ∷ es)
