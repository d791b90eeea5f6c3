-- Escaping: the text of a glob that matches a single path.
use Rattle.std.specs.Prelude.{◌≡◌, ◌↔◌, ℕ, ◌==◌, List, [], ◌∷◌, Bool, false, ◌||◌, not, if◌then◌else◌, IsTrue, encode_utf8_all}
use Rattle.std.specs.List.{flat_map, list_all}
use Rattle.std.specs.Str.{chars}
use Rattle.glob_syntax.specs.declared.options.Options.{Options}
use Rattle.glob_text.specs.GlobMatches.{GlobValue, default_options, IsRead, glob_matches}

-- the character is `?`, `*`, `[`, `]`, `{` or `}`
abbrev pub is_special : ℕ → Bool
is_special c = (c == 63) || ((c == 42) || ((c == 91) || ((c == 93) || ((c == 123) || (c == 125)))))

-- a special character in brackets, and any other character as it is
abbrev pub escaped_char : ℕ → List ℕ
escaped_char c = if is_special c then 91 ∷ c ∷ 93 ∷ [] else c ∷ []

-- the characters, each escaped, in order
abbrev pub escaped_chars : List ℕ → List ℕ
escaped_chars cs = flat_map escaped_char cs

-- A text, escaped. Only special characters change, not `\`, `,`, `!` and `-`.
abbrev pub escaped : List ℕ → List ℕ
escaped text = encode_utf8_all (escaped_chars (chars text))

-- ---- what an escaped text matches

-- the text contains no `\`
abbrev pub has_no_backslash : List ℕ → Bool
has_no_backslash text = list_all (λ c. not (c == 92)) (chars text)

-- the default options, but with `backslash_escape` off
abbrev pub plain_options : Options
plain_options = record default_options { backslash_escape = false }

-- The glob has a reading, and matches only this path.
abbrev pub MeansOnly : GlobValue → List ℕ → Type 0
MeansOnly g path = IsRead g × ((b : List ℕ) → IsTrue (glob_matches g b) ↔ (b ≡ path))
