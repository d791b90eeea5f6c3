-- The offset of the first error of a text: of the `[` of the class with the error, of the `}` or of the last `\`. For a group
-- that is open at the end of the text it is that of the outermost such `{`. It is the error that `reading` finds (ErrorsAgree in
-- Laws).
use Rattle.std.specs.Prelude.{ℕ, zero, suc, ◌-◌, ◌==◌, List, [], ◌∷◌, length, Option, Some, None, Ok, Err, if◌then◌else◌, encode_utf8_all}
use Rattle.std.specs.Option.{option_map}
use Rattle.glob_syntax.specs.declared.options.Options.{Options}
use Rattle.glob_syntax.specs.declared.parse_error_kind.ParseErrorKind.{ParseErrorKind}
use Rattle.glob_syntax.specs.declared.parse_error_kind.ParseErrorKind.TheVariants.{UnclosedAlternates}
use Rattle.glob_syntax.specs.Lexemes.{Lexeme, lexeme_at}
use Rattle.glob_syntax.specs.Nesting.{nested_lexeme}

-- the lexemes of these characters, where the first n belong to the lexeme before them; each with the text from its first
-- character on
unfoldable pub lexemes_from : Options → ℕ → List ℕ → List (Lexeme × List ℕ)
lexemes_from o n [] = []
lexemes_from o (suc n) (c ∷ cs) = lexemes_from o n cs
lexemes_from o zero (c ∷ cs) = let m = lexeme_at o c cs in (m.0, c ∷ cs) ∷ lexemes_from o m.1 cs

-- The first error of lexemes inside this number of open groups, with the text from the error on. That is from the lexeme that is
-- an error, or, where a group is still open at the end, from the outermost open `{`. Inside groups, `outer` is the text from that
-- `{` on.
unfoldable pub error_from : ℕ → List ℕ → List (Lexeme × List ℕ) → Option (ParseErrorKind × List ℕ)
error_from zero outer [] = None
error_from (suc depth) outer [] = Some (UnclosedAlternates, outer)
error_from depth outer (m ∷ ms) =
    elim (nested_lexeme depth m.0) [ Err f ↦ Some (f, m.1) | Ok s ↦ error_from s.0 (if depth == 0 then m.1 else outer) ms ]

-- the first error of a text, with the text from it on
abbrev pub first_error : Options → List ℕ → Option (ParseErrorKind × List ℕ)
first_error o text = error_from zero text (lexemes_from o zero text)

-- the offset of the first error: how many bytes of the text, in UTF-8, stand before it
unfoldable pub error_offset : Options → List ℕ → Option ℕ
error_offset o text = option_map (λ e. length (encode_utf8_all text) - length (encode_utf8_all e.1)) (first_error o text)
