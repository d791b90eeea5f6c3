-- The bytes that a character class contains.
--
-- A class matches single bytes, each a number from 0 to 255. A range with equal ends contains the bytes of its character in
-- UTF-8. Any other range contains UTF-8 bytes of its two characters. These are the bytes of the first character except its last;
-- every byte from that last byte up to the first byte of the second character; and the other bytes of the second character. So
-- `[a-z]` contains the lowercase ASCII letters, and `[é-ü]` contains C3, every byte from A9 to C3, and BC.
use Rattle.std.specs.Prelude.{ℕ, Bool, false, not, ◌&&◌, ◌||◌, ◌==◌, nat_le, List, [], ◌∷◌, if◌then◌else◌, encode_utf8}
use Rattle.std.specs.List.{list_any}
use Rattle.std.specs.Char.{to_ascii_lowercase, to_ascii_uppercase}
use Rattle.glob_syntax.specs.declared.options.Options.{Options}

-- the byte is in the list
abbrev pub is_one_of : ℕ → List ℕ → Bool
is_one_of byte bytes = list_any (λ b. byte == b) bytes

-- a byte of the list except its last, or from its last up to `upper`
abbrev pub is_from_last : ℕ → List ℕ → ℕ → Bool
is_from_last byte [] upper = false
is_from_last byte (b ∷ []) upper = nat_le b byte && nat_le byte upper
is_from_last byte (b ∷ d ∷ bs) upper = (byte == b) || is_from_last byte (d ∷ bs) upper

-- the bytes of a range between two characters, given as their bytes
abbrev pub is_spanned : ℕ → List ℕ → List ℕ → Bool
is_spanned byte first [] = false
is_spanned byte first (upper ∷ others) = is_from_last byte first upper || is_one_of byte others

-- a range, given by its two ends, contains the byte
abbrev pub range_has : ℕ × ℕ → ℕ → Bool
range_has (x, y) byte = if (x == y) then is_one_of byte (encode_utf8 x) else is_spanned byte (encode_utf8 x) (encode_utf8 y)

-- some range contains the byte
abbrev pub ranges_have : List (ℕ × ℕ) → ℕ → Bool
ranges_have [] byte = false
ranges_have (r ∷ rs) byte = range_has r byte || ranges_have rs byte

-- and under `case_insensitive` they also contain the other case of each ASCII letter
abbrev pub folded_have : Options → List (ℕ × ℕ) → ℕ → Bool
folded_have o rs byte = ranges_have rs byte || (o.case_insensitive && (ranges_have rs (to_ascii_lowercase byte) || ranges_have rs (to_ascii_uppercase byte)))

-- a negated class contains all the other bytes, also `/`
abbrev pub class_has : Options → Bool → List (ℕ × ℕ) → ℕ → Bool
class_has o negated rs byte = if negated then not (folded_have o rs byte) else folded_have o rs byte
