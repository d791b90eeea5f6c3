-- Braces among lexemes: a `{` opens a group, a `}` closes the innermost open group, and a `,` separates its branches.
use Rattle.std.specs.Prelude.{ℕ, zero, suc, List, [], ◌∷◌, false, Result, Ok, Err}
use Rattle.glob_syntax.specs.declared.parse_error_kind.ParseErrorKind.{ParseErrorKind}
use Rattle.glob_syntax.specs.declared.parse_error_kind.ParseErrorKind.TheVariants.{UnopenedAlternates, UnclosedAlternates}
use Rattle.glob_syntax.specs.Lexemes.{Lexeme, Char, Open, Comma, Close, Bad}

-- A lexeme inside this number of open groups: the number of open groups after it, and the lexeme itself, or an error. A `,`
-- outside every group becomes a plain character; every other lexeme stays as it is.
abbrev pub nested_lexeme : ℕ → Lexeme → Result (ℕ × Lexeme) ParseErrorKind
nested_lexeme depth (Bad f) = Err f
nested_lexeme depth Open = Ok (suc depth, Open)
nested_lexeme zero Close = Err UnopenedAlternates
nested_lexeme (suc depth) Close = Ok (depth, Close)
nested_lexeme zero Comma = Ok (zero, Char false 44)
nested_lexeme depth m = Ok (depth, m)

-- a lexeme, and then the lexemes of what follows, unless that has an error
abbrev pub with_lexeme : Lexeme → Result (List Lexeme) ParseErrorKind → Result (List Lexeme) ParseErrorKind
with_lexeme m (Ok ms) = Ok (m ∷ ms)
with_lexeme m (Err f) = Err f

-- The lexemes inside this number of open groups, or the first error from left to right. A group that is still open at the end of
-- the text is an error.
unfoldable pub nested : ℕ → List Lexeme → Result (List Lexeme) ParseErrorKind
nested zero [] = Ok []
nested (suc depth) [] = Err UnclosedAlternates
nested depth (m ∷ ms) = elim (nested_lexeme depth m) [ Err f ↦ Err f | Ok s ↦ with_lexeme s.1 (nested s.0 ms) ]
