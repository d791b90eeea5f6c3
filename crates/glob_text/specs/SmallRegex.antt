-- Small regular expressions: which texts are regular expressions, and which lists of bytes they match.
--
-- `Spells` relates a text to a tree, and `Denotes` relates the tree to the lists of bytes. Nothing here is about globs.
use Rattle.std.specs.Prelude.{◌≡◌, ◌<◌, ◌≤◌, ◌+◌, ◌-◌, ◌*◌, ◌⊎◌, ℕ, Bool, false, not, ◌&&◌, ◌||◌, ◌==◌, nat_le, List, [], ◌∷◌, ◌++◌, length, All, if◌then◌else◌, IsTrue, IsFalse, codes}
use Rattle.std.specs.Char.{to_ascii_lowercase, to_ascii_uppercase}

-- ---- trees

-- an entry of a class: a byte, or the bytes from a byte to another
pub data Entry : Type 0 where
  single : ℕ → Entry
  span : ℕ → ℕ → Entry

mutual
  pub data Atom : Type 0 where
    -- `.`
    any_byte : Atom
    -- a byte
    byte : ℕ → Atom
    -- `[..]`: whether it is negated, and its entries
    class_of : Bool → List Entry → Atom
    -- `(?:..)`: its first row, and the others
    group_of : Row → Rows → Atom

  pub data Item : Type 0 where
    -- the atom alone
    once : Atom → Item
    -- `*`
    repeated : Atom → Item
    -- `?`
    optional : Atom → Item

  -- items, in order
  pub data Row : Type 0 where
    no_item : Row
    item : Item → Row → Row

  pub data Rows : Type 0 where
    no_row : Rows
    row : Row → Rows → Rows

-- a whole regular expression: whether ASCII letters are equal in both cases, and its row
pub data Expression : Type 0 where
  expression : Bool → Row → Expression

-- ---- the texts of a tree
--
-- A text is a list of bytes, all of them ASCII characters. Most parts of a tree have a single text. A byte may have two.

-- the number is in the list
abbrev pub is_among : ℕ → List ℕ → Bool
is_among c [] = false
is_among c (x ∷ xs) = (c == x) || is_among c xs

-- the special characters, which match themselves only after a backslash: \ . + * ? ( ) | [ ] { } ^ $ # & - ~
abbrev pub is_special : ℕ → Bool
is_special c = is_among c (codes "\\.+*?()|[]{}^$#&-~")

-- a digit from `0` to `9` or from `a` to `f`
abbrev pub is_hexadecimal : ℕ → Bool
is_hexadecimal c = (nat_le 48 c && nat_le c 57) || (nat_le 97 c && nat_le c 102)

-- the value of a digit, 0 to 15
abbrev pub hexadecimal_value : ℕ → ℕ
hexadecimal_value c = if nat_le c 57 then c - 48 else c - 87

-- A byte has these spellings: as an ASCII character, if that is not special; as a special character after a backslash; and, for
-- every byte, as `\x` and two digits.
abbrev pub SpellsByte : ℕ → List ℕ → Type 0
SpellsByte c t =
    ((t ≡ c ∷ []) × (c < 128) × IsFalse (is_special c))
    ⊎ (((t ≡ codes "\\" ++ c ∷ []) × IsTrue (is_special c))
    ⊎ ((h : ℕ) × (l : ℕ) × (t ≡ codes "\\x" ++ h ∷ l ∷ []) × IsTrue (is_hexadecimal h) × IsTrue (is_hexadecimal l) × (c ≡ 16 * hexadecimal_value h + hexadecimal_value l)))

-- an entry is written as a byte, or as a byte, `-` and a byte
abbrev pub SpellsEntry : Entry → List ℕ → Type 0
SpellsEntry (single c) t = SpellsByte c t
SpellsEntry (span c d) t = (u v : List ℕ) × (t ≡ u ++ codes "-" ++ v) × SpellsByte c u × SpellsByte d v

-- entries are written in order
abbrev pub SpellsEntries : List Entry → List ℕ → Type 0
SpellsEntries [] t = t ≡ []
SpellsEntries (e ∷ es) t = (u v : List ℕ) × (t ≡ u ++ v) × SpellsEntry e u × SpellsEntries es v

abbrev mutual
  -- an atom is written as `.`, as a byte, as a class or as a group
  pub SpellsAtom : Atom → List ℕ → Type 0
  SpellsAtom any_byte t = t ≡ codes "."
  SpellsAtom (byte c) t = SpellsByte c t
  -- `[`, a `^` if it is negated, one or more entries, `]`
  SpellsAtom (class_of negated es) t = (u : List ℕ) × (t ≡ codes "[" ++ (if negated then codes "^" else []) ++ u ++ codes "]") × SpellsEntries es u × (1 ≤ length es)
  -- `(?:`, one or more rows separated by `|`, `)`
  SpellsAtom (group_of r rs) t = (u v : List ℕ) × (t ≡ codes "(?:" ++ u ++ v ++ codes ")") × SpellsRow r u × SpellsOthers rs v

  -- an item is written as an atom, which a `*` or a `?` may follow
  pub SpellsItem : Item → List ℕ → Type 0
  SpellsItem (once a) t = SpellsAtom a t
  SpellsItem (repeated a) t = (u : List ℕ) × (t ≡ u ++ codes "*") × SpellsAtom a u
  SpellsItem (optional a) t = (u : List ℕ) × (t ≡ u ++ codes "?") × SpellsAtom a u

  -- the items of a row are written in order; a row may have none
  pub SpellsRow : Row → List ℕ → Type 0
  SpellsRow no_item t = t ≡ []
  SpellsRow (item i r) t = (u v : List ℕ) × (t ≡ u ++ v) × SpellsItem i u × SpellsRow r v

  -- the rows of a group after its first are written with a `|` before each
  pub SpellsOthers : Rows → List ℕ → Type 0
  SpellsOthers no_row t = t ≡ []
  SpellsOthers (row r rs) t = (u v : List ℕ) × (t ≡ codes "|" ++ u ++ v) × SpellsRow r u × SpellsOthers rs v

-- The text of a whole regular expression: `(?-u)`, then `(?i)` if letters are equal in both cases, `^`, a row, `$`
abbrev pub Spells : Expression → List ℕ → Type 0
Spells (expression fold r) t = (u : List ℕ) × (t ≡ codes "(?-u)" ++ (if fold then codes "(?i)" else []) ++ codes "^" ++ u ++ codes "$") × SpellsRow r u

-- ---- the meaning of a tree

-- The byte `c` is x. If letters are equal in both cases, it may also be the other case of x.
abbrev pub is_same : Bool → ℕ → ℕ → Bool
is_same fold x c = if fold then to_ascii_lowercase c == to_ascii_lowercase x else c == x

-- the entry has the byte
abbrev pub entry_has : Entry → ℕ → Bool
entry_has (single x) c = c == x
entry_has (span x y) c = nat_le x c && nat_le c y

-- some entry has the byte
abbrev pub entries_have : List Entry → ℕ → Bool
entries_have [] c = false
entries_have (e ∷ es) c = entry_has e c || entries_have es c

-- The class has the byte before its negation. If letters are equal in both cases, it has the other case of each of its letters
-- too.
abbrev pub folded_entries_have : Bool → List Entry → ℕ → Bool
folded_entries_have fold es c = entries_have es c || (fold && (entries_have es (to_ascii_lowercase c) || entries_have es (to_ascii_uppercase c)))

-- The class has the byte. A negated class has the bytes that it would not have otherwise.
abbrev pub class_of_has : Bool → Bool → List Entry → ℕ → Bool
class_of_has fold negated es c = if negated then not (folded_entries_have fold es c) else folded_entries_have fold es c

-- the list can be cut into any number of pieces, so that P holds of each piece
pub data Repeats (P : List ℕ → Type 0) : List ℕ → Type 0 where
  no_piece : Repeats P []
  one_more : (x y b : List ℕ) → b ≡ x ++ y → P x → Repeats P y → Repeats P b

-- Which lists of bytes the parts of a tree denote. `fold` says whether ASCII letters are equal in both cases.
abbrev mutual
  -- an atom
  pub DenotesAtom : Bool → Atom → List ℕ → Type 0
  -- any byte, also a line feed
  DenotesAtom fold any_byte b = (c : ℕ) × (b ≡ c ∷ [])
  DenotesAtom fold (byte x) b = (c : ℕ) × (b ≡ c ∷ []) × IsTrue (is_same fold x c)
  DenotesAtom fold (class_of negated es) b = (c : ℕ) × (b ≡ c ∷ []) × IsTrue (class_of_has fold negated es c)
  -- a group denotes everything that some row of it denotes
  DenotesAtom fold (group_of r rs) b = DenotesRow fold r b ⊎ DenotesSome fold rs b

  -- an item: its atom once, any number of times, or at most once
  pub DenotesItem : Bool → Item → List ℕ → Type 0
  DenotesItem fold (once a) b = DenotesAtom fold a b
  DenotesItem fold (repeated a) b = Repeats (DenotesAtom fold a) b
  DenotesItem fold (optional a) b = (b ≡ []) ⊎ DenotesAtom fold a b

  -- a row: the first item denotes the front of the list, and the other items denote the rest in the same way
  pub DenotesRow : Bool → Row → List ℕ → Type 0
  DenotesRow fold no_item b = b ≡ []
  DenotesRow fold (item i r) b = (x y : List ℕ) × (b ≡ x ++ y) × DenotesItem fold i x × DenotesRow fold r y

  -- some row of these
  pub DenotesSome : Bool → Rows → List ℕ → Type 0
  DenotesSome fold no_row b = ⊥
  DenotesSome fold (row r rs) b = DenotesRow fold r b ⊎ DenotesSome fold rs b

-- a list of bytes
abbrev pub AreBytes : List ℕ → Type 0
AreBytes b = All (λ c. c < 256) b

-- A whole regular expression denotes the lists of bytes that its row denotes, because a row between `^` and `$` has to match
-- all of a list.
abbrev pub Denotes : Expression → List ℕ → Type 0
Denotes (expression fold r) b = AreBytes b × DenotesRow fold r b
