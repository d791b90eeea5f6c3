-- What follows from the definitions of reading and of characters. Each law is the contract of a function of the module `laws`.
use Rattle.std.specs.Prelude.{◌≡◌, ◌↔◌, ℕ, Bool, true, false, IsTrue, List, ◌++◌, Some, encode_utf8}
use Rattle.std.specs.Char.{IsScalar}
use Rattle.std.specs.Option.{option_map}
use Rattle.glob_syntax.specs.declared.options.Options.{Options}
use Rattle.glob_syntax.specs.declared.parse_error_kind.ParseErrorKind.{ParseErrorKind}
use Rattle.glob_syntax.specs.declared.parse_error_kind.ParseErrorKind.TheVariants.{UnclosedClass, InvalidRange, UnopenedAlternates, UnclosedAlternates, DanglingEscape}
use Rattle.glob_syntax.specs.Characters.{is_character}
use Rattle.glob_syntax.specs.Reading.{HasParseError}
use Rattle.glob_syntax.specs.ErrorOffset.{first_error}

-- The errors that more text cannot remove: a range that goes down, and a `}` that closes no group. The others say that the
-- text ends too early.
abbrev pub is_lasting : ParseErrorKind → Bool
is_lasting (InvalidRange first last) = true
is_lasting UnopenedAlternates = true
is_lasting UnclosedClass = false
is_lasting UnclosedAlternates = false
is_lasting DanglingEscape = false

-- Without `allow_unclosed_class`, a text with such an error keeps that very error with any text after it.
abbrev pub ParseErrorsStay : Type 0
ParseErrorsStay = (o : Options) (text more : List ℕ) (f : ParseErrorKind) → o.allow_unclosed_class ≡ false → IsTrue (is_lasting f) → HasParseError o text f → HasParseError o (text ++ more) f

-- The error whose offset a text has is the error that `reading` finds. A text that has tokens has no such error.
abbrev pub ErrorsAgree : Type 0
ErrorsAgree = (o : Options) (text : List ℕ) (f : ParseErrorKind) → HasParseError o text f ↔ (option_map (λ e. e.0) (first_error o text) ≡ Some f)

-- bytes are a character exactly if std writes some Unicode scalar value as these bytes
abbrev pub CharactersAreScalars : Type 0
CharactersAreScalars = (b : List ℕ) → IsTrue (is_character b) ↔ ((c : ℕ) × IsScalar c × (b ≡ encode_utf8 c))
