-- Texts as lists of bytes.
use Rattle.std.specs.Prelude.{ℕ, ◌<◌, ◌==◌, Bool, true, false, ◌||◌, List, [], ◌∷◌}

-- each of the numbers is a byte
abbrev pub AllBytes : List ℕ → Type 0
AllBytes [] = Unit {0}
AllBytes (c ∷ cs) = (c < 256) × AllBytes cs

-- there are no bytes
abbrev pub is_empty : List ℕ → Bool
is_empty [] = true
is_empty (c ∷ cs) = false

-- there is a single byte, which passes the test
abbrev pub is_one_byte : (ℕ → Bool) → List ℕ → Bool
is_one_byte test [] = false
is_one_byte test (c ∷ []) = test c
is_one_byte test (c ∷ d ∷ rest) = false

-- the last byte is this one
abbrev pub ends_with : ℕ → List ℕ → Bool
ends_with c [] = false
ends_with c (d ∷ []) = c == d
ends_with c (d ∷ e ∷ es) = ends_with c (e ∷ es)

-- The bytes can be cut into two parts that pass the test. Either part may be empty.
abbrev pub some_cut : (List ℕ → List ℕ → Bool) → List ℕ → Bool
some_cut test [] = test [] []
some_cut test (c ∷ cs) = test [] (c ∷ cs) || some_cut (λ front back. test (c ∷ front) back) cs
