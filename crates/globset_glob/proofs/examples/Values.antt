-- Examples of JSON values, and what they are read as. Each row computes.
use Rattle.std.specs.Prelude.{[], ◌∷◌, true, false, Ok, Err, codes, refl}
use Rattle.std.specs.Fmt.{digits}
use Rattle.serde_json.specs.Data.{null, boolean, number, unsigned, string, array, object, no_items, item, no_members, member}
use Rattle.glob_syntax.specs.declared.parse_error_kind.ParseErrorKind.TheVariants.{UnclosedClass}
use Rattle.glob_text.specs.declared.value_error.ValueErrorKind.TheVariants.{Glob}
use Rattle.glob_text.specs.Errors.{parse_error}
use Rattle.glob_text.specs.GlobMatches.{default_glob, default_options}
use Rattle.glob_text.specs.ValueErrors.{of_kind, not_text, unknown_key, not_bool, not_array, at_index, of_element, value_out_of_memory, value_error_text}
use Rattle.globset_glob.specs.Values.{glob_of_value, value_of_glob}
use Rattle.glob_text.proofs.examples.Unfoldings.{glob_on_literals}
use Rattle.glob_syntax.proofs.examples.Words.{AreEqual}

glob_of_value_rows : AreEqual (
    (glob_of_value (string (codes "src/**/*.rs")), Ok (default_glob (codes "src/**/*.rs")))  -- text with a reading
    ∷ (glob_of_value (string (codes "[")), Err (of_kind (Glob (parse_error default_options (codes "[") UnclosedClass))))  -- text with a fault
    ∷ (glob_of_value (number (unsigned 7)), Err not_text)  -- a number
    ∷ (glob_of_value null, Err not_text)  -- null value
    ∷ (glob_of_value (boolean true), Err not_text)  -- truth value
    ∷ (glob_of_value (array (item (string (codes "a")) no_items)), Err not_text)  -- array of a text
    ∷ (glob_of_value (object no_members), Err not_text)  -- empty object
    ∷ (glob_of_value (object (member (codes "glob") (string (codes "*.rs")) no_members)), Ok (default_glob (codes "*.rs")))  -- object without options
    ∷ (glob_of_value (object (member (codes "glob") (string (codes "*.rs")) (member (codes "literal_separator") (boolean true) no_members))), Ok (record { text = codes "*.rs"; options = record default_options { literal_separator = true } }))  -- object with an option
    ∷ (glob_of_value (object (member (codes "backslash_escape") (boolean false) (member (codes "glob") (string (codes "\\")) no_members))), Ok (record { text = codes "\\"; options = record default_options { backslash_escape = false } }))  -- object of a backslash
    ∷ (glob_of_value (object (member (codes "literal_separator") (boolean true) no_members)), Err not_text)  -- object without a text
    ∷ (glob_of_value (object (member (codes "glob") (number (unsigned 7)) (member (codes "x") null no_members))), Err not_text)  -- object of a number
    ∷ (glob_of_value (object (member (codes "glob") (string (codes "a")) (member (codes "literal_separator") null (member (codes "x") null no_members)))), Err unknown_key)  -- unknown key before no bool
    ∷ (glob_of_value (object (member (codes "glob") (string (codes "[")) (member (codes "x") (boolean true) no_members))), Err unknown_key)  -- unknown key before a fault
    ∷ (glob_of_value (object (member (codes "glob") (string (codes "[")) (member (codes "literal_separator") (number (unsigned 0)) no_members))), Err not_bool)  -- no bool before a fault
    ∷ (glob_of_value (object (member (codes "glob") (string (codes "[")) no_members)), Err (of_kind (Glob (parse_error default_options (codes "[") UnclosedClass))))  -- object with a fault
    ∷ [])
unfolding glob_on_literals
glob_of_value_rows = refl

value_of_glob_rows : AreEqual (
    (value_of_glob (default_glob (codes "*.rs")), string (codes "*.rs"))  -- value of a default glob
    ∷ (value_of_glob (record { text = codes "*.rs"; options = record default_options { literal_separator = true } }), object (member (codes "glob") (string (codes "*.rs")) (member (codes "literal_separator") (boolean true) no_members)))  -- value with an option
    ∷ (value_of_glob (record { text = codes "\\"; options = record default_options { backslash_escape = false } }), object (member (codes "backslash_escape") (boolean false) (member (codes "glob") (string (codes "\\")) no_members)))  -- value of a backslash
    ∷ [])
value_of_glob_rows = refl

of_element_rows : AreEqual (
    (of_element 3 value_out_of_memory, value_out_of_memory)  -- memory at an element
    ∷ (of_element 3 not_text, at_index 3 not_text)  -- number at an element
    ∷ [])
of_element_rows = refl

value_error_text_rows : AreEqual (
    (value_error_text not_array, codes "expected an array of glob patterns")  -- text of no array
    ∷ (value_error_text (at_index 0 unknown_key), codes "element 0: unknown key in a glob object")  -- text of an unknown key
    ∷ (value_error_text (at_index 0 not_bool), codes "element 0: expected true or false")  -- text of no bool
    ∷ (value_error_text (at_index 10 not_text), codes "element 10: expected a glob pattern")  -- text at an index
    ∷ (value_error_text (at_index 1 (of_kind (Glob (parse_error default_options (codes "[") UnclosedClass)))), codes "element 1: error parsing glob '[': unclosed character class; missing ']'")  -- text of a fault
    ∷ [])
unfolding digits
value_error_text_rows = refl
