-- Errors of reading a value.
use Rattle.std.specs.Prelude.{◌≡◌, ◌⊎◌, ℕ, List, ◌++◌, Bool, true, false, Option, Some, None, Result, Err, codes, decimal, if◌then◌else◌}
use Rattle.glob_text.specs.declared.error.ErrorKind.{ErrorKind}
use Rattle.glob_text.specs.declared.error.ErrorKind.TheVariants as causes
use Rattle.glob_text.specs.declared.value_error.ValueErrorKind.{ValueErrorKind}
use Rattle.glob_text.specs.declared.value_error.ValueErrorKind.TheVariants as kinds
use Rattle.glob_text.specs.Errors.{out_of_memory, error_text}

-- An error of a value as contracts see it: the index, if the error is about an element of an array, and the kind.
pub record ValueErrorValue : Type 0 where
  pub index : Option ℕ
  pub kind : ValueErrorKind

-- the error of this kind that is about no element
abbrev pub of_kind : ValueErrorKind → ValueErrorValue
of_kind kind = record { index = None; kind = kind }

-- the error of a value that is neither a text nor an object with a text under `glob`
abbrev pub not_text : ValueErrorValue
not_text = of_kind kinds.NotText

-- the error of an object that has a key other than `glob` and the options' keys
abbrev pub unknown_key : ValueErrorValue
unknown_key = of_kind kinds.UnknownKey

-- the error of an object where an option is neither true nor false
abbrev pub not_bool : ValueErrorValue
not_bool = of_kind kinds.NotBool

-- the error of a value that is not an array
abbrev pub not_array : ValueErrorValue
not_array = of_kind kinds.NotArray

-- The error that memory ran out. It is about no element.
abbrev pub value_out_of_memory : ValueErrorValue
value_out_of_memory = of_kind (kinds.Glob out_of_memory)

-- A call with this result may return this error: the result's error, or that memory ran out.
abbrev pub IsValueErrorOf : {X : Type 0} → Result X ValueErrorValue → ValueErrorValue → Type 0
IsValueErrorOf outcome e = (e ≡ value_out_of_memory) ⊎ (outcome ≡ Err e)

-- ---- elements

-- the error, of the element at this index
abbrev pub at_index : ℕ → ValueErrorValue → ValueErrorValue
at_index i e = record { index = Some i; kind = e.kind }

-- the kind says that memory ran out
abbrev pub is_memory_kind : ErrorKind → Bool
is_memory_kind causes.OutOfMemory = true
is_memory_kind _ = false

-- the kind of an error of a value says that memory ran out
abbrev pub is_memory : ValueErrorKind → Bool
is_memory (kinds.Glob e) = is_memory_kind e.kind
is_memory _ = false

-- the error of the element at this index; that memory ran out is about no element
abbrev pub of_element : ℕ → ValueErrorValue → ValueErrorValue
of_element i e = if is_memory e.kind then e else at_index i e

-- ---- displayed texts

-- the displayed text of a kind
abbrev pub value_kind_text : ValueErrorKind → List ℕ
value_kind_text kinds.NotText = codes "expected a glob pattern"
value_kind_text kinds.UnknownKey = codes "unknown key in a glob object"
value_kind_text kinds.NotBool = codes "expected true or false"
value_kind_text kinds.NotArray = codes "expected an array of glob patterns"
value_kind_text (kinds.Glob e) = error_text e

-- what an error displays, by its index and by what its kind displays
abbrev pub text_at : Option ℕ → List ℕ → List ℕ
text_at None kind = kind
text_at (Some i) kind = codes "element " ++ decimal i ++ codes ": " ++ kind

-- what an error displays
abbrev pub value_error_text : ValueErrorValue → List ℕ
value_error_text e = text_at e.index (value_kind_text e.kind)
