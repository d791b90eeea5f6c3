-- Errors as C sees them.
use Rattle.std.specs.Prelude.{◌≡◌, ℕ, List, Option, Some, None, option_and_then}
use Rattle.std.specs.Char.{IsScalar}
use Rattle.std.specs.Str.{chars}
use Rattle.glob_syntax.specs.ErrorOffset.{error_offset}
use Rattle.glob_syntax.specs.Reading.{HasParseError}
use Rattle.glob_syntax.specs.declared.parse_error_kind.ParseErrorKind.{ParseErrorKind}
use Rattle.glob_text.specs.Errors.{kind_of, kind_text, text_with}
use Rattle.glob_text.specs.declared.error.ErrorKind.{ErrorKind}
use Rattle.glob_text.specs.declared.error.ErrorKind.TheVariants as kinds
use Rattle.c_objects.specs.Options.{options_of}
use Rattle.c_objects.specs.declared.error.TextError.{TextError}

-- An error as C sees it, of this kind at this offset. The other kinds are no errors of a text.
abbrev pub told : ErrorKind → ℕ → Option TextError
told kinds.UnclosedClass at = Some (record { kind = 1; start = 0; end = 0; offset = at })
told (kinds.InvalidRange start end) at = Some (record { kind = 2; start = start; end = end; offset = at })
told kinds.UnopenedAlternates at = Some (record { kind = 3; start = 0; end = 0; offset = at })
told kinds.UnclosedAlternates at = Some (record { kind = 4; start = 0; end = 0; offset = at })
told kinds.DanglingEscape at = Some (record { kind = 5; start = 0; end = 0; offset = at })
told kinds.OutOfMemory at = None
told kinds.InvalidRecursive at = None
told kinds.NestedAlternates at = None
told (kinds.Regex text) at = None

-- The text is no glob under these options, and this is its first error, with its offset.
abbrev pub IsErrorOf : List ℕ → ℕ → TextError → Type 0
IsErrorOf text options e = (f : ParseErrorKind) × HasParseError (options_of options) (chars text) f
    × (option_and_then (told (kind_of f)) (error_offset (options_of options) (chars text)) ≡ Some e)

-- The numbers are those of an error of this kind; for a range its characters are among them.
abbrev pub IsTold : TextError → ErrorKind → Type 0
IsTold e kinds.UnclosedClass = e.kind ≡ 1
IsTold e (kinds.InvalidRange start end) = (e.kind ≡ 2) × (e.start ≡ start) × (e.end ≡ end) × IsScalar start × IsScalar end
IsTold e kinds.UnopenedAlternates = e.kind ≡ 3
IsTold e kinds.UnclosedAlternates = e.kind ≡ 4
IsTold e kinds.DanglingEscape = e.kind ≡ 5
IsTold e _ = ⊥

-- The numbers tell of an error, and P holds of what such an error of the text displays.
abbrev pub IfTold : TextError → List ℕ → (List ℕ → Type 0) → Type 0
IfTold e text P = (k : ErrorKind) × IsTold e k × P (text_with (Some text) (kind_text k))
