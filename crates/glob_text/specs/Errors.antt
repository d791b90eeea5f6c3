-- Errors of globs, and the texts that they display.
use Rattle.std.specs.Prelude.{◌≡◌, ℕ, List, ◌++◌, Option, Some, None, encode_utf8, codes, string_bytes, ◌⊎◌, Result, Ok, Err}
use Rattle.glob_text.specs.declared.error.ErrorKind.{ErrorKind}
use Rattle.glob_text.specs.declared.error.ErrorKind.TheVariants as kinds
use Rattle.glob_syntax.specs.declared.parse_error_kind.ParseErrorKind.{ParseErrorKind}
use Rattle.glob_syntax.specs.declared.parse_error_kind.ParseErrorKind.TheVariants as faults
use Rattle.glob_syntax.specs.declared.options.Options.{Options}
use Rattle.glob_text.specs.GlobMatches.{GlobValue}
use Rattle.glob_syntax.specs.Reading.{HasParseError, reading}
use Rattle.glob_syntax.specs.ErrorOffset.{error_offset}
use Rattle.std.specs.Str.{chars}

-- An error as contracts see it: the rejected text, if any, its kind, and its offset in the text, in bytes.
pub record ErrorValue : Type 0 where
  pub glob : Option (List ℕ)
  pub kind : ErrorKind
  pub offset : Option ℕ

-- The error that memory ran out. It holds no text.
abbrev pub out_of_memory : ErrorValue
out_of_memory = record { glob = None; kind = kinds.OutOfMemory; offset = None }

-- the kind of the error of a text with this fault
abbrev pub kind_of : ParseErrorKind → ErrorKind
kind_of faults.UnclosedClass = kinds.UnclosedClass
kind_of (faults.InvalidRange start end) = kinds.InvalidRange start end
kind_of faults.UnopenedAlternates = kinds.UnopenedAlternates
kind_of faults.UnclosedAlternates = kinds.UnclosedAlternates
kind_of faults.DanglingEscape = kinds.DanglingEscape

-- The error of a text with this first fault under these options. It holds the text and the offset of the fault.
abbrev pub parse_error : Options → List ℕ → ParseErrorKind → ErrorValue
parse_error o text f = record { glob = Some text; kind = kind_of f; offset = error_offset o (chars text) }

-- The glob of a text under its options, or if the text has a fault, the error of its first fault.
abbrev pub glob_or_parse_error : GlobValue → Result GlobValue ErrorValue
glob_or_parse_error g = elim (reading g.options (chars g.text)) [ Ok ts ↦ Ok g | Err f ↦ Err (parse_error g.options g.text f) ]

-- Reading the text under these options may return this error: the error of the text's first fault, or that memory ran out.
abbrev pub IsParseErrorOf : Options → List ℕ → ErrorValue → Type 0
IsParseErrorOf o text e = (e ≡ out_of_memory) ⊎ ((f : ParseErrorKind) × HasParseError o (chars text) f × (e ≡ parse_error o text f))

-- ---- displayed texts

-- the displayed text of a kind
abbrev pub kind_text : ErrorKind → List ℕ
kind_text kinds.UnclosedClass = codes "unclosed character class; missing ']'"
kind_text (kinds.InvalidRange start end) = codes "invalid range; '" ++ encode_utf8 start ++ codes "' > '" ++ encode_utf8 end ++ codes "'"
kind_text kinds.UnopenedAlternates = codes "unopened alternate group; missing '{' (maybe escape '}' with '[}]'?)"
kind_text kinds.UnclosedAlternates = codes "unclosed alternate group; missing '}' (maybe escape '{' with '[{]'?)"
kind_text kinds.DanglingEscape = codes "dangling '\\'"
kind_text kinds.OutOfMemory = codes "out of memory"
kind_text kinds.InvalidRecursive = codes "invalid use of **; must be one path component"
kind_text kinds.NestedAlternates = codes "nested alternate groups are not allowed"
kind_text (kinds.Regex text) = string_bytes text

-- what an error displays, by the text that it holds and by what its kind displays
abbrev pub text_with : Option (List ℕ) → List ℕ → List ℕ
text_with None kind = kind
text_with (Some glob) kind = codes "error parsing glob '" ++ glob ++ codes "': " ++ kind

-- what an error displays
abbrev pub error_text : ErrorValue → List ℕ
error_text e = text_with e.glob (kind_text e.kind)
