-- The tokens of a glob while they are read.
use Rattle.std.specs.Prelude.{◌≡◌, ℕ, zero, List, ◌∷◌, drop, Bool}
use Rattle.glob_syntax.specs.declared.lexemes.Lexeme as held
use Rattle.glob_syntax.specs.declared.token.Token as tokens
use Rattle.glob_syntax.specs.Lexemes.{Lexeme}
use Rattle.glob_syntax.specs.Reading.{levels}
use Rattle.glob_syntax.specs.FlatTokens as flat
use Rattle.glob_syntax.specs.Views.{flats}
use Rattle.glob_syntax.specs.inner.LexemeViews.{lexeme_of, lexemes_of}
use Rattle.glob_syntax.specs.inner.Nests.{Nests, starts_branch}

-- after these tokens as many groups are open as these lexemes close
pub record Follows (ts : List flat.Flat) (ms : List Lexeme) : Type 0 where
  pub depth : ℕ
  pub opened : flat.Nests 0 ts depth
  pub closed : Nests depth ms

-- From tokens that are read and lexemes that are left to more tokens and fewer lexemes: the levels of the whole glob stay.
-- `start` and `later_start` say that a branch starts at the first of the lexemes that are left.
pub record ReadsTo (ts : List flat.Flat) (start : Bool) (ms : List Lexeme) (later : List flat.Flat) (later_start : Bool) (left : List Lexeme) : Type 0 where
  pub same : flat.onto later (levels zero later_start left) ≡ flat.onto ts (levels zero start ms)
  pub follows : Follows later left

-- the piece that begins with a lexeme is read, with this number of lexemes after it
abbrev pub ReadsPiece : List tokens.Token → Bool → held.Lexeme → List held.Lexeme → List tokens.Token → ℕ → Type 0
ReadsPiece old start lexeme after new more =
    ReadsTo (flats old) start (lexeme_of lexeme ∷ lexemes_of after) (flats new) (starts_branch (lexeme_of lexeme)) (drop more (lexemes_of after))
