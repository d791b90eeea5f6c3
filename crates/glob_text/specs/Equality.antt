-- Equality of errors. Globs need no definition: two are equal if they have the same `GlobValue`.
use Rattle.std.specs.Prelude.{◌≡◌, ℕ, Option, None, string_bytes}
use Rattle.glob_text.specs.declared.error.ErrorKind.{ErrorKind}
use Rattle.glob_text.specs.declared.error.ErrorKind.TheVariants as kinds
use Rattle.glob_text.specs.declared.value_error.ValueErrorKind.{ValueErrorKind}
use Rattle.glob_text.specs.declared.value_error.ValueErrorKind.TheVariants as causes
use Rattle.glob_text.specs.Errors.{ErrorValue}
use Rattle.glob_text.specs.ValueErrors.{ValueErrorValue}

-- Kinds of errors are equal if they are the same variant, with the same characters or the same text. `≡` would compare
-- where the text is in memory too.
abbrev pub SameKind : ErrorKind → ErrorKind → Type 0
SameKind (kinds.Regex text) (kinds.Regex other) = string_bytes text ≡ string_bytes other
SameKind kind other = kind ≡ other

-- Errors are equal if both have the same text, or both have none, and their kinds are equal. Their offsets are not compared.
abbrev pub SameError : ErrorValue → ErrorValue → Type 0
SameError e f = (e.glob ≡ f.glob) × SameKind e.kind f.kind

-- Kinds of errors of values are equal if they are the same variant, with equal errors.
abbrev pub SameValueKind : ValueErrorKind → ValueErrorKind → Type 0
SameValueKind (causes.Glob e) (causes.Glob f) = SameError e f
SameValueKind kind other = kind ≡ other

-- Errors of values are equal if both have the same index, or both have none, and their kinds are equal.
abbrev pub SameValueError : ValueErrorValue → ValueErrorValue → Type 0
SameValueError e f = (e.index ≡ f.index) × SameValueKind e.kind f.kind

-- ---- copies, which are equal and also have the same offsets

-- the offset of the error that a kind of errors of values holds, if any
abbrev pub offset_in : ValueErrorKind → Option ℕ
offset_in (causes.Glob e) = e.offset
offset_in _ = None
