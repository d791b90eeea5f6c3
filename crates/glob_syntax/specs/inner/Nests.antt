-- Lexemes that have no error: the source of tokens.
use Rattle.std.specs.Prelude.{◌≡◌, ℕ, List, Bool, true, false, Ok}
use Rattle.glob_syntax.specs.Lexemes.{Lexeme, Open, Comma, Close, Bad}
use Rattle.glob_syntax.specs.Nesting.{nested}

-- inside this number of open groups, these lexemes have no error, and close all of the groups
pub record Nests (depth : ℕ) (ms : List Lexeme) : Type 0 where
  pub is : nested depth ms ≡ Ok ms

-- a lexeme inside a branch: no brace, comma or error
abbrev pub is_inner : Lexeme → Bool
is_inner Open = false
is_inner Comma = false
is_inner Close = false
is_inner (Bad f) = false
is_inner m = true

-- a branch starts after the lexeme
abbrev pub starts_branch : Lexeme → Bool
starts_branch Open = true
starts_branch Comma = true
starts_branch m = false
