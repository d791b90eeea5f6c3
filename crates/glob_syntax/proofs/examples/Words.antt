-- Definitions to write the examples with.
use Rattle.std.specs.Prelude.{◌≡◌, ℕ, zero, suc, ◌+◌, ◌-◌, Bool, true, false, List, [], ◌∷◌, map, get_or, filter, codes, Result, Ok, Err}
use Rattle.std.specs.List.{list_all}
use Prim.Native.String.{String}
use Rattle.glob_syntax.specs.declared.options.Options.{Options}
use Rattle.glob_syntax.specs.declared.options.TheConstants.Options.{DEFAULT}
use Rattle.glob_syntax.specs.Token.{Token, Literal, Class, Group, Tokens, end, and_then, Branches, none, branch, before}
use Rattle.glob_syntax.specs.Reading.{reading}
use Rattle.glob_syntax.specs.ClassBytes.{class_has}

-- ---- tables

-- each row is something that is computed, and what it is
abbrev pub AreEqual : {A : Type 0} → List (A × A) → Type 0
AreEqual rows = map (λ row. row.0) rows ≡ map (λ row. row.1) rows

-- each row is computed and true
abbrev pub AreTrue : List Bool → Type 0
AreTrue rows = list_all (λ row. row) rows ≡ true

-- ---- options: the default ones except one

abbrev pub insensitive : Options
insensitive = record DEFAULT { case_insensitive = true }

abbrev pub separated : Options
separated = record DEFAULT { literal_separator = true }

abbrev pub unescaped : Options
unescaped = record DEFAULT { backslash_escape = false }

abbrev pub blank_kept : Options
blank_kept = record DEFAULT { empty_alternates = true }

abbrev pub unclosed : Options
unclosed = record DEFAULT { allow_unclosed_class = true }

abbrev pub whole : Options
whole = record DEFAULT { whole_character = true }

-- ---- tokens and errors

-- the first character of a text
abbrev pub char_of : String → ℕ
char_of text = get_or (codes text) 0 0

-- a whole glob, or one branch of a group
abbrev pub tokens : List Token → Tokens
tokens ts = before ts end

-- a literal for each character
abbrev pub literals : String → List Token
literals text = map Literal (codes text)

-- these branches, and then those
abbrev pub ahead : List Tokens → Branches → Branches
ahead [] bs = bs
ahead (ts ∷ front) bs = branch ts (ahead front bs)

-- a group, by its branches
abbrev pub group : List (List Token) → Token
group branches = Group (ahead (map tokens branches) none)

-- pairs of numbers that follow one another
abbrev pub paired : List ℕ → List (ℕ × ℕ)
paired [] = []
paired (x ∷ []) = []
paired (x ∷ y ∷ cs) = (x, y) ∷ paired cs

-- the ranges whose ends are each two characters of the text
abbrev pub spans : String → List (ℕ × ℕ)
spans text = paired (codes text)

-- ---- bytes of a class

-- so many numbers from `first` on
abbrev pub counted : ℕ → ℕ → List ℕ
counted first zero = []
counted first (suc n) = first ∷ counted (first + 1) n

-- the numbers from `low` up to `high`
abbrev pub from_to : ℕ → ℕ → List ℕ
from_to low high = counted low (high + 1 - low)

-- the bytes that the only token, a class, contains, in ascending order
abbrev pub bytes_of_tokens : Options → Tokens → List ℕ
bytes_of_tokens o (and_then (Class negated rs) end) = filter (class_has o negated rs) (from_to 0 255)
bytes_of_tokens o _ = []

abbrev pub bytes_of_result : {E : Type 0} → Options → Result Tokens E → List ℕ
bytes_of_result o (Ok ts) = bytes_of_tokens o ts
bytes_of_result o (Err f) = []

-- the bytes that the class which is the whole glob contains, in ascending order
abbrev pub bytes_had : Options → String → List ℕ
bytes_had o glob = bytes_of_result o (reading o (codes glob))
