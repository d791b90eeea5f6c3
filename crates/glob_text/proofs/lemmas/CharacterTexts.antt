-- The texts of whole characters: their bytes, and what they denote, row by row.
use Rattle.std.proofs.Common.{◌≡◌, ℕ, ◌+◌, ◌*◌, ◌≤◌, inr, Bool, true, false, not, ◌&&◌, List, [], ◌∷◌, ◌++◌, IsTrue, refl, arith}
use Rattle.std.specs.Prelude.{◌==◌, codes}
use Rattle.std.proofs.lemmas.Bool.Decides.{nat_tests}
use Rattle.glob_syntax.specs.declared.options.Options.{Options}
use Rattle.glob_syntax.specs.Characters.{is_between, is_character}
use Rattle.glob_syntax.specs.TokenMatches.{is_wild_character, slash}
use Rattle.glob_syntax.specs.inner.CharacterRows.{continues, is_ascii_wild}
use Rattle.glob_syntax.proofs.lemmas.Characters.{some_row, none_left_out, ascii_left_out}
use Rattle.glob_text.specs.SmallRegex.{span, SpellsByte, is_hexadecimal, hexadecimal_value, is_same, folded_entries_have}

-- a byte as two digits
pub spells_digits : (h l : ℕ) → IsTrue (is_hexadecimal h) → IsTrue (is_hexadecimal l) → SpellsByte (16 * hexadecimal_value h + hexadecimal_value l) (codes "\\x" ++ h ∷ l ∷ [])
spells_digits h l p q = inr (inr (h, l, refl, p, q, refl))

-- ---- bytes that are no letters are the same folded or not

pub same_byte : (fold : Bool) (x c : ℕ) → 128 ≤ x → is_same fold x c ≡ is_between (x, x) c
same_byte true x c high = grind (arith, nat_tests)
same_byte false x c high = grind (arith, nat_tests)

pub same_span : (fold : Bool) (x y c : ℕ) → 128 ≤ x → folded_entries_have fold (span x y ∷ []) c ≡ is_between (x, y) c
same_span true x y c high = grind (arith, nat_tests)
same_span false x y c high = grind (arith, nat_tests)

-- and so are all ASCII characters, with `/` or without
pub same_ascii : (fold : Bool) (c : ℕ) → folded_entries_have fold (span 0x00 0x7F ∷ []) c ≡ is_between (0x00, 0x7F) c
same_ascii true c = grind (arith, nat_tests)
same_ascii false c = grind (arith, nat_tests)

pub same_ascii_apart : (fold : Bool) (c : ℕ) → folded_entries_have fold (span 0x00 0x2E ∷ span 0x30 0x7F ∷ []) c ≡ (is_between (0x00, 0x7F) c && not (c == slash))
same_ascii_apart true c = grind (arith, nat_tests)
same_ascii_apart false c = grind (arith, nat_tests)

-- ---- rows

-- the rows of a regular expression, as tests
abbrev pub regex_rows : Options → List (List (ℕ → Bool))
regex_rows o =
    (is_ascii_wild o ∷ [])
    ∷ (is_between (0xC2, 0xDF) ∷ continues ∷ [])
    ∷ (is_between (0xE0, 0xE0) ∷ is_between (0xA0, 0xBF) ∷ continues ∷ [])
    ∷ (is_between (0xE1, 0xEC) ∷ continues ∷ continues ∷ [])
    ∷ (is_between (0xED, 0xED) ∷ is_between (0x80, 0x9F) ∷ continues ∷ [])
    ∷ (is_between (0xEE, 0xEF) ∷ continues ∷ continues ∷ [])
    ∷ (is_between (0xF0, 0xF0) ∷ is_between (0x90, 0xBF) ∷ continues ∷ continues ∷ [])
    ∷ (is_between (0xF1, 0xF3) ∷ continues ∷ continues ∷ continues ∷ [])
    ∷ (is_between (0xF4, 0xF4) ∷ is_between (0x80, 0x8F) ∷ continues ∷ continues ∷ [])
    ∷ []

-- they are what `?` matches
pub regex_rows_are : (o : Options) (b : List ℕ) → some_row (regex_rows o) b ≡ is_wild_character o b
regex_rows_are o [] = refl
regex_rows_are o (b ∷ []) = ascii_left_out (is_between (0x00, 0x7F) b) (o.literal_separator && (b == slash))
regex_rows_are o (b ∷ c ∷ []) = none_left_out (is_character (b ∷ c ∷ [])) o.literal_separator
regex_rows_are o (b ∷ c ∷ d ∷ []) = none_left_out (is_character (b ∷ c ∷ d ∷ [])) o.literal_separator
regex_rows_are o (b ∷ c ∷ d ∷ e ∷ []) = none_left_out (is_character (b ∷ c ∷ d ∷ e ∷ [])) o.literal_separator
regex_rows_are o (b ∷ c ∷ d ∷ e ∷ f ∷ fs) = refl
