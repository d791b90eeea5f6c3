-- The bytes of characters in UTF-8.
use Rattle.std.specs.Prelude.{ℕ, Bool, true, false, ◌&&◌, nat_le, List, [], ◌∷◌}
use Rattle.std.specs.List.{list_any}

-- the number is in the range
abbrev pub is_between : ℕ × ℕ → ℕ → Bool
is_between (first, last) c = nat_le first c && nat_le c last

-- there are as many bytes as ranges, and each byte is in its range
abbrev pub are_between : List (ℕ × ℕ) → List ℕ → Bool
are_between [] [] = true
are_between (r ∷ rs) (c ∷ cs) = are_between rs cs && is_between r c
are_between _ _ = false

-- The well-formed byte sequences of Table 3-7 of the Unicode Standard, row by row: the ranges of the first byte, the second, the
-- third and the fourth.
abbrev pub character_rows : List (List (ℕ × ℕ))
character_rows =
    ((0x00, 0x7F) ∷ [])
    ∷ ((0xC2, 0xDF) ∷ (0x80, 0xBF) ∷ [])
    ∷ ((0xE0, 0xE0) ∷ (0xA0, 0xBF) ∷ (0x80, 0xBF) ∷ [])
    ∷ ((0xE1, 0xEC) ∷ (0x80, 0xBF) ∷ (0x80, 0xBF) ∷ [])
    ∷ ((0xED, 0xED) ∷ (0x80, 0x9F) ∷ (0x80, 0xBF) ∷ [])
    ∷ ((0xEE, 0xEF) ∷ (0x80, 0xBF) ∷ (0x80, 0xBF) ∷ [])
    ∷ ((0xF0, 0xF0) ∷ (0x90, 0xBF) ∷ (0x80, 0xBF) ∷ (0x80, 0xBF) ∷ [])
    ∷ ((0xF1, 0xF3) ∷ (0x80, 0xBF) ∷ (0x80, 0xBF) ∷ (0x80, 0xBF) ∷ [])
    ∷ ((0xF4, 0xF4) ∷ (0x80, 0x8F) ∷ (0x80, 0xBF) ∷ (0x80, 0xBF) ∷ [])
    ∷ []

-- the bytes are a character
abbrev pub is_character : List ℕ → Bool
is_character b = list_any (λ row. are_between row b) character_rows
