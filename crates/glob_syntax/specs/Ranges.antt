-- The body of a character class, without its brackets and its negation, as ranges.
--
-- A body is one or more chains and then, perhaps, a last `-`. A chain is a character, which is not `-` except at the very start
-- of the body, followed any number of times by a `-` and another character. It is the range from its first character to its last,
-- which may be the same. A last `-` is a member by itself. So `a-c-e` is a single range, from `a` to `e`, and `ab-` has the
-- members `a`, `b` and `-`.
use Rattle.std.specs.Prelude.{ℕ, List, [], ◌∷◌, Bool, true, false, ◌==◌, nat_lt, Option, Some, None}
use Rattle.glob_syntax.specs.declared.parse_error_kind.ParseErrorKind.{ParseErrorKind}
use Rattle.glob_syntax.specs.declared.parse_error_kind.ParseErrorKind.TheVariants.{InvalidRange}

-- `-`
abbrev pub is_hyphen : ℕ → Bool
is_hyphen c = c == 45

-- The ranges of the rest of a body inside a chain, which goes from `first` to `last` so far. A `-` goes on with the chain, or is
-- the last member, and any other character begins the next chain. `after_hyphen` is how a `-` goes on.
abbrev mutual
  pub chain : ℕ → ℕ → List ℕ → List (ℕ × ℕ)
  chain first last [] = (first, last) ∷ []
  chain first last (c ∷ rest) = elim (is_hyphen c) [ true ↦ after_hyphen first last rest | false ↦ (first, last) ∷ chain c c rest ]

  pub after_hyphen : ℕ → ℕ → List ℕ → List (ℕ × ℕ)
  after_hyphen first last [] = (first, last) ∷ (45, 45) ∷ []
  after_hyphen first last (c ∷ rest) = chain first c rest

-- the ranges of a body
unfoldable pub ranges : List ℕ → List (ℕ × ℕ)
ranges [] = []
ranges (c ∷ rest) = chain c c rest

-- The first bad range of the rest of a body inside a chain that begins with `first`: a character after a `-` that is below
-- `first`.
abbrev mutual
  pub bad_chain : ℕ → List ℕ → Option ParseErrorKind
  bad_chain first [] = None
  bad_chain first (c ∷ rest) = elim (is_hyphen c) [ true ↦ bad_after_hyphen first rest | false ↦ bad_chain c rest ]

  pub bad_after_hyphen : ℕ → List ℕ → Option ParseErrorKind
  bad_after_hyphen first [] = None
  bad_after_hyphen first (c ∷ rest) = elim (nat_lt c first) [ true ↦ Some (InvalidRange first c) | false ↦ bad_chain first rest ]

-- the first bad range of a body
unfoldable pub bad_range : List ℕ → Option ParseErrorKind
bad_range [] = None
bad_range (c ∷ rest) = bad_chain c rest
