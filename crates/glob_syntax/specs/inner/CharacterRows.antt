-- What `?` matches under `whole_character`, as rows of tests of bytes.
use Rattle.std.specs.Prelude.{ℕ, Bool, true, false, not, ◌&&◌, ◌==◌, List, [], ◌∷◌, ◌++◌}
use Rattle.glob_syntax.specs.declared.options.Options.{Options}
use Rattle.glob_syntax.specs.TokenMatches.{is_wild}
use Rattle.glob_syntax.specs.Characters.{is_between}

-- there are as many bytes as tests, and each byte passes its test
abbrev pub passes : List (ℕ → Bool) → List ℕ → Bool
passes [] [] = true
passes [] (c ∷ cs) = false
passes (test ∷ tests) [] = false
passes (test ∷ tests) (c ∷ cs) = passes tests cs && test c

-- the bytes after the first byte of a character, except some second bytes
abbrev pub continues : ℕ → Bool
continues = is_between (0x80, 0xBF)

-- a character of a single byte that `?` matches
abbrev pub is_ascii_wild : Options → ℕ → Bool
is_ascii_wild o c = is_between (0x00, 0x7F) c && is_wild o c

-- the first byte of a character of three bytes, whose second byte may be any continuing byte
abbrev pub begins_three : ℕ → Bool
begins_three c = not (c == 0xED) && is_between (0xE1, 0xEF) c

abbrev pub three_byte_rows : List (List (ℕ → Bool))
three_byte_rows =
    (is_between (0xE0, 0xE0) ∷ is_between (0xA0, 0xBF) ∷ continues ∷ [])
    ∷ (begins_three ∷ continues ∷ continues ∷ [])
    ∷ (is_between (0xED, 0xED) ∷ is_between (0x80, 0x9F) ∷ continues ∷ [])
    ∷ []

abbrev pub four_byte_rows : List (List (ℕ → Bool))
four_byte_rows =
    (is_between (0xF0, 0xF0) ∷ is_between (0x90, 0xBF) ∷ continues ∷ continues ∷ [])
    ∷ (is_between (0xF1, 0xF3) ∷ continues ∷ continues ∷ continues ∷ [])
    ∷ (is_between (0xF4, 0xF4) ∷ is_between (0x80, 0x8F) ∷ continues ∷ continues ∷ [])
    ∷ []

-- The matches of `?` under `whole_character`, row by row. Two rows of the Unicode Standard are merged, which saves a state.
abbrev pub wild_rows : Options → List (List (ℕ → Bool))
wild_rows o = (is_ascii_wild o ∷ []) ∷ (is_between (0xC2, 0xDF) ∷ continues ∷ []) ∷ (three_byte_rows ++ four_byte_rows)
