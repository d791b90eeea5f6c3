-- Lexemes as contracts see them.
use Rattle.std.specs.Prelude.{◌≡◌, ℕ, ◌++◌, List, map, None, Result, Ok, Err}
use Rattle.std.specs.List.{position}
use Rattle.glob_syntax.specs.declared.lexemes.Lexeme.{Lexeme}
use Rattle.glob_syntax.specs.declared.lexemes.Lexeme.TheVariants as held
use Rattle.glob_syntax.specs.declared.token.Token as tokens
use Rattle.glob_syntax.specs.Token.{Token}
use Rattle.glob_syntax.specs.Lexemes as lexemes
use Rattle.glob_syntax.specs.Ranges.{ranges}
use Rattle.glob_syntax.specs.FlatTokens.{simple}
use Rattle.glob_syntax.specs.Views.{flats}

-- none of these characters is a `]`
abbrev pub NoCloser : List ℕ → Type 0
NoCloser cs = position lexemes.is_closer cs ≡ None

-- a lexeme; a class by the ranges of its body
abbrev pub lexeme_of : Lexeme → lexemes.Lexeme
lexeme_of (held.Char escaped c) = lexemes.Char escaped c
lexeme_of held.One = lexemes.One
lexeme_of (held.Stars n) = lexemes.Stars n
lexeme_of (held.Class negated body) = lexemes.Class negated (ranges body.now)
lexeme_of held.Open = lexemes.Open
lexeme_of held.Comma = lexemes.Comma
lexeme_of held.Close = lexemes.Close
lexeme_of (held.Bad f) = lexemes.Bad f

-- lexemes, in order
abbrev pub lexemes_of : List Lexeme → List lexemes.Lexeme
lexemes_of ms = map lexeme_of ms

-- the tokens of a piece were appended, and this number of lexemes belong to it after its first
pub record Adds (old new : List tokens.Token) (p : List Token × ℕ) (more : ℕ) : Type 0 where
  pub tokens : flats new ≡ flats old ++ map simple p.0
  pub takes : more ≡ p.1

-- a result with its value, if any, seen by a function
abbrev pub map_ok : {X Y E : Type 0} → (X → Y) → Result X E → Result Y E
map_ok f (Ok x) = Ok (f x)
map_ok f (Err e) = Err e
