-- Tokens as a flat list, in the order of the text, and the tree that they have.
use Rattle.std.specs.Prelude.{◌≡◌, ℕ, zero, suc, List, [], ◌∷◌}
use Rattle.glob_syntax.specs.Token.{Token, Tokens, Branches, end, none, branch}
use Rattle.glob_syntax.specs.Reading.{Levels, in_level, open_level, next_branch, close_level, first_branch}

-- a token, a brace or a comma
pub data Flat : Type 0 where
  simple : Token → Flat
  -- `{`
  opening : Flat
  -- a `,` between two branches
  comma : Flat
  -- `}`
  closing : Flat

-- a token, and then these levels
abbrev pub level : Flat → Levels → Levels
level (simple t) l = in_level (t ∷ []) l
level opening l = open_level l
level comma l = next_branch l
level closing l = close_level l

-- tokens, and then these levels
abbrev pub onto : List Flat → Levels → Levels
onto [] l = l
onto (t ∷ ts) l = level t (onto ts l)

-- The levels of the last tokens of a list, as the levels of the last lexemes of a glob.
abbrev pub levels_of : List Flat → Levels
levels_of ts = onto ts (branch end none, [])

-- the innermost level, and those around it
abbrev pub all_levels : Levels → List Branches
all_levels l = l.0 ∷ l.1

-- the tree of a whole list
abbrev pub tree_of : List Flat → Tokens
tree_of ts = first_branch (levels_of ts).0

-- After n open groups, these tokens leave m groups open. None closes a group that is not open, and each comma is in a group.
abbrev pub Nests : ℕ → List Flat → ℕ → Type 0
Nests n [] m = n ≡ m
Nests n (simple t ∷ ts) m = Nests n ts m
Nests n (opening ∷ ts) m = Nests (suc n) ts m
Nests zero (comma ∷ ts) m = ⊥
Nests (suc n) (comma ∷ ts) m = Nests (suc n) ts m
Nests zero (closing ∷ ts) m = ⊥
Nests (suc n) (closing ∷ ts) m = Nests n ts m

-- each group is closed, and each comma is in a group
abbrev pub IsNested : List Flat → Type 0
IsNested ts = Nests 0 ts 0

-- the token stands for itself: it neither opens nor closes a group, and separates no branches
abbrev pub IsSimple : Flat → Type 0
IsSimple (simple t) = Unit {0}
IsSimple opening = ⊥
IsSimple comma = ⊥
IsSimple closing = ⊥

-- the branches after the first
abbrev pub later_branches : Branches → Branches
later_branches none = none
later_branches (branch ts bs) = bs
