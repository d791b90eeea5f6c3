-- `==` of globs, errors and kinds of errors as tests, and that the tests of errors are equivalences.
--
-- The contract of each `==` gives the meaning of its test: that two globs are the same `GlobValue`, and `SameError` and the like.
use Rattle.std.specs.Prelude.{ℕ, Bool, ◌&&◌, List, [], Option, Some, None, string_bytes, nat_eq}
use Rattle.std.specs.Bool.{beq}
use Rattle.std.specs.Str.{bytes_eq}
use Rattle.std.specs.Option.{option_eq}
use Rattle.std.specs.Ordering.{on, eq_of_both}
use Rattle.std.specs.Cmp.{IsEquivalence}
use Rattle.std.specs.Cmp.Lexicographic.{options_equiv}
use Rattle.std.proofs.lemmas.Cmp.{and_equiv, on_equiv, nat_eq_equiv, nat_list_eq_equiv}
use Rattle.glob_syntax.specs.declared.options.Options.{Options}
use Rattle.glob_text.specs.declared.error.ErrorKind.{ErrorKind}
use Rattle.glob_text.specs.declared.error.ErrorKind.TheVariants as kinds
use Rattle.glob_text.specs.declared.value_error.ValueErrorKind.{ValueErrorKind}
use Rattle.glob_text.specs.declared.value_error.ValueErrorKind.TheVariants as causes
use Rattle.glob_text.specs.GlobMatches.{GlobValue}
use Rattle.glob_text.specs.Errors.{ErrorValue}
use Rattle.glob_text.specs.ValueErrors.{ValueErrorValue}

-- ---- globs

-- both have the same value of each option
abbrev pub same_options : Options → Options → Bool
same_options o p =
    beq o.case_insensitive p.case_insensitive
    && (beq o.literal_separator p.literal_separator
    && (beq o.backslash_escape p.backslash_escape
    && (beq o.empty_alternates p.empty_alternates
    && (beq o.allow_unclosed_class p.allow_unclosed_class
    && beq o.whole_character p.whole_character))))

-- `==` of globs: the same text, and the same options
abbrev pub same_glob : GlobValue → GlobValue → Bool
same_glob g h = bytes_eq g.text h.text && same_options g.options h.options

-- ---- errors

-- a number for each variant
abbrev pub variant : ErrorKind → ℕ
variant kinds.UnclosedClass = 0
variant (kinds.InvalidRange start end) = 1
variant kinds.UnopenedAlternates = 2
variant kinds.UnclosedAlternates = 3
variant kinds.DanglingEscape = 4
variant kinds.OutOfMemory = 5
variant kinds.InvalidRecursive = 6
variant kinds.NestedAlternates = 7
variant (kinds.Regex text) = 8

-- the start of a range, and 0 for other kinds
abbrev pub start_of : ErrorKind → ℕ
start_of (kinds.InvalidRange start end) = start
start_of _ = 0

-- the end of a range, and 0 for other kinds
abbrev pub end_of : ErrorKind → ℕ
end_of (kinds.InvalidRange start end) = end
end_of _ = 0

-- the text of `Regex`, and nothing for other kinds
abbrev pub text_of : ErrorKind → List ℕ
text_of (kinds.Regex text) = string_bytes text
text_of _ = []

-- `==` of kinds: the same variant, with the same characters and the same text
abbrev pub same_kind : ErrorKind → ErrorKind → Bool
same_kind = eq_of_both (on variant nat_eq) (eq_of_both (on start_of nat_eq) (eq_of_both (on end_of nat_eq) (on text_of bytes_eq)))

pub same_kind_laws : IsEquivalence same_kind
same_kind_laws = and_equiv (on_equiv variant nat_eq_equiv) (and_equiv (on_equiv start_of nat_eq_equiv) (and_equiv (on_equiv end_of nat_eq_equiv) (on_equiv text_of nat_list_eq_equiv)))

-- `==` of errors: the same text or none, and equal kinds
abbrev pub same_error : ErrorValue → ErrorValue → Bool
same_error = eq_of_both (on (λ e. e.glob) (option_eq bytes_eq)) (on (λ e. e.kind) same_kind)

pub same_error_laws : IsEquivalence same_error
same_error_laws = and_equiv (on_equiv (λ e. e.glob) (options_equiv nat_list_eq_equiv)) (on_equiv (λ e. e.kind) same_kind_laws)

-- a number for each variant
abbrev pub value_variant : ValueErrorKind → ℕ
value_variant causes.NotText = 0
value_variant causes.UnknownKey = 1
value_variant causes.NotBool = 2
value_variant causes.NotArray = 3
value_variant (causes.Glob e) = 4

-- the error of `Glob`
abbrev pub error_in : ValueErrorKind → Option ErrorValue
error_in (causes.Glob e) = Some e
error_in _ = None

-- `==` of kinds of errors of values: the same variant, with equal errors
abbrev pub same_value_kind : ValueErrorKind → ValueErrorKind → Bool
same_value_kind = eq_of_both (on value_variant nat_eq) (on error_in (option_eq same_error))

pub same_value_kind_laws : IsEquivalence same_value_kind
same_value_kind_laws = and_equiv (on_equiv value_variant nat_eq_equiv) (on_equiv error_in (options_equiv same_error_laws))

-- `==` of errors of values: the same index or none, and equal kinds
abbrev pub same_value_error : ValueErrorValue → ValueErrorValue → Bool
same_value_error = eq_of_both (on (λ e. e.index) (option_eq nat_eq)) (on (λ e. e.kind) same_value_kind)

pub same_value_error_laws : IsEquivalence same_value_error
same_value_error_laws = and_equiv (on_equiv (λ e. e.index) (options_equiv nat_eq_equiv)) (on_equiv (λ e. e.kind) same_value_kind_laws)
