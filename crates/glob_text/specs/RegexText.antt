-- The text of a glob as a regular expression. It is a list of bytes, all of them ASCII characters.
use Rattle.std.specs.Prelude.{ℕ, ◌+◌, ◌/◌, ◌%◌, Bool, true, false, ◌==◌, nat_lt, List, [], ◌∷◌, ◌++◌, if◌then◌else◌, encode_utf8, codes}
use Rattle.glob_syntax.specs.declared.options.Options.{Options}
use Rattle.glob_syntax.specs.Token.{Token, Literal, Any, ZeroOrMore, RecursivePrefix, RecursiveSuffix, RecursiveZeroOrMore, Class, Group, Tokens, end, and_then, Branches, none, branch}
use Rattle.glob_syntax.specs.Blank.{is_kept}
use Rattle.glob_syntax.specs.ClassBytes.{is_one_of}
use Rattle.glob_syntax.specs.TokensMatch.{is_prefix_alone}

-- ---- characters

-- the hexadecimal digit of a number below 16: `0` to `9`, or `a` to `f`
abbrev pub hexadecimal_digit : ℕ → ℕ
hexadecimal_digit n = if nat_lt n 10 then 48 + n else 87 + n

-- the ASCII characters that are written after a backslash: \ . + * ? ( ) | [ ] { } ^ $ # & - ~
abbrev pub is_escaped : ℕ → Bool
is_escaped c = is_one_of c (codes "\\.+*?()|[]{}^$#&-~")

-- A byte above 7F is written as `\x` and two digits. An ASCII character is written as itself, some after a backslash.
abbrev pub byte_text : ℕ → List ℕ
byte_text c =
    if nat_lt c 128 then (if is_escaped c then codes "\\" ++ c ∷ [] else c ∷ [])
    else codes "\\x" ++ hexadecimal_digit (c / 16) ∷ hexadecimal_digit (c % 16) ∷ []

-- bytes, in order
abbrev pub bytes_text : List ℕ → List ℕ
bytes_text [] = []
bytes_text (c ∷ cs) = byte_text c ++ bytes_text cs

-- a character, by its bytes in UTF-8
abbrev pub char_text : ℕ → List ℕ
char_text c = bytes_text (encode_utf8 c)

-- ---- classes

-- a range: its first and last character with a `-` between them, or a single character if they are equal
abbrev pub range_text : ℕ × ℕ → List ℕ
range_text (x, y) = if x == y then char_text x else char_text x ++ codes "-" ++ char_text y

-- ranges, in order
abbrev pub ranges_text : List (ℕ × ℕ) → List ℕ
ranges_text [] = []
ranges_text (r ∷ rs) = range_text r ++ ranges_text rs

-- A class, by whether it is negated and its ranges: `[`, a `^` if it is negated, the ranges, `]`.
abbrev pub class_text : Bool → List (ℕ × ℕ) → List ℕ
class_text negated rs = codes "[" ++ (if negated then codes "^" else []) ++ ranges_text rs ++ codes "]"

-- ---- groups, by the texts of their kept branches

-- the texts after the first, each with a `|` before it
abbrev pub others_text : List (List ℕ) → List ℕ
others_text [] = []
others_text (t ∷ ts) = codes "|" ++ t ++ others_text ts

-- the texts between `(?:` and `)`, separated by `|`, or nothing if there are no texts
abbrev pub group_text : List (List ℕ) → List ℕ
group_text [] = []
group_text (t ∷ ts) = codes "(?:" ++ t ++ others_text ts ++ codes ")"

-- a text before others, if the branch is kept
abbrev pub with_text : Bool → List ℕ → List (List ℕ) → List (List ℕ)
with_text true t ts = t ∷ ts
with_text false t ts = ts

-- ---- whole characters

-- the ASCII characters, but not `/` under `literal_separator`
abbrev pub ascii_text : Options → List ℕ
ascii_text o = if o.literal_separator then codes "[\\x00-\\x2e\\x30-\\x7f]" else codes "[\\x00-\\x7f]"

-- the other characters in UTF-8, by the rows of `character_rows`
abbrev pub longer_texts : List (List ℕ)
longer_texts =
    codes "[\\xc2-\\xdf][\\x80-\\xbf]"
    ∷ codes "\\xe0[\\xa0-\\xbf][\\x80-\\xbf]"
    ∷ codes "[\\xe1-\\xec][\\x80-\\xbf][\\x80-\\xbf]"
    ∷ codes "\\xed[\\x80-\\x9f][\\x80-\\xbf]"
    ∷ codes "[\\xee-\\xef][\\x80-\\xbf][\\x80-\\xbf]"
    ∷ codes "\\xf0[\\x90-\\xbf][\\x80-\\xbf][\\x80-\\xbf]"
    ∷ codes "[\\xf1-\\xf3][\\x80-\\xbf][\\x80-\\xbf][\\x80-\\xbf]"
    ∷ codes "\\xf4[\\x80-\\x8f][\\x80-\\xbf][\\x80-\\xbf]"
    ∷ []

-- the matches of `?`: a character under `whole_character`, and otherwise a byte
abbrev pub any_text : Options → List ℕ
any_text o = if o.whole_character then group_text (ascii_text o ∷ longer_texts) else (if o.literal_separator then codes "[^/]" else codes ".")

-- ---- tokens

abbrev mutual
  -- a token
  pub token_text : Options → Token → List ℕ
  token_text o (Literal c) = char_text c
  token_text o Any = any_text o
  token_text o ZeroOrMore = if o.literal_separator then codes "[^/]*" else codes ".*"
  token_text o RecursivePrefix = codes "(?:/?|.*/)"
  token_text o RecursiveSuffix = codes "/.*"
  token_text o RecursiveZeroOrMore = codes "(?:/|/.*/)"
  token_text o (Class negated rs) = class_text negated rs
  token_text o (Group bs) = group_text (kept_texts o bs)

  -- tokens, in order
  pub tokens_text : Options → Tokens → List ℕ
  tokens_text o end = []
  tokens_text o (and_then t ts) = token_text o t ++ tokens_text o ts

  -- the texts of the kept branches
  pub kept_texts : Options → Branches → List (List ℕ)
  kept_texts o none = []
  kept_texts o (branch ts bs) = with_text (is_kept o ts) (tokens_text o ts) (kept_texts o bs)

-- ---- the whole glob

-- The flags: `.` and classes match bytes, and under `case_insensitive` ASCII letters match in both cases.
abbrev pub flags_text : Options → List ℕ
flags_text o = codes "(?-u)" ++ (if o.case_insensitive then codes "(?i)" else [])

-- the body: `.*` if RecursivePrefix is the only token, as in `**`, or else the tokens
abbrev pub body_text : Options → Tokens → List ℕ
body_text o ts = if is_prefix_alone ts then codes ".*" else tokens_text o ts

-- the text of a whole glob with these tokens
abbrev pub regex_text : Options → Tokens → List ℕ
regex_text o ts = flags_text o ++ codes "^" ++ body_text o ts ++ codes "$"
