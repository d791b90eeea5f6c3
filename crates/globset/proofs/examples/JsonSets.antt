-- Examples of sets from JSON values. Each row computes.
use Rattle.std.specs.Prelude.{◌≡◌, [], ◌∷◌, true, Ok, Err, codes, refl}
use Rattle.serde_json.specs.Data.{boolean, number, unsigned, string, array, object, no_items, item, no_members, member}
use Rattle.glob_syntax.specs.declared.parse_error_kind.ParseErrorKind.TheVariants.{UnclosedClass}
use Rattle.glob_text.specs.declared.value_error.ValueErrorKind.TheVariants.{Glob}
use Rattle.globset_glob.specs.Errors.{parse_error}
use Rattle.globset_glob.specs.GlobMatches.{default_options}
use Rattle.globset_glob.specs.ValueErrors.{of_kind, not_text, unknown_key, not_array, at_index}
use Rattle.globset.specs.SetFromValue.{globs_of_value}
use Rattle.globset.proofs.examples.Words.{globs_on_literals, glob, insensitive, globs}

two_globs : globs_of_value (array (item (string (codes "*.rs")) (item (string (codes "src/**")) no_items))) ≡ Ok (globs ("*.rs" ∷ "src/**" ∷ []))
unfolding globs_on_literals
two_globs = refl

no_globs : globs_of_value (array no_items) ≡ Ok []
no_globs = refl

object_and_text : globs_of_value (array (item (object (member (codes "case_insensitive") (boolean true) (member (codes "glob") (string (codes "*.RS")) no_members))) (item (string (codes "*.rs")) no_items)))
    ≡ Ok (insensitive "*.RS" ∷ glob "*.rs" ∷ [])
unfolding globs_on_literals
object_and_text = refl

unknown_key_at_index_zero : globs_of_value (array (item (object (member (codes "glob") (string (codes "[")) (member (codes "x") (boolean true) no_members))) no_items)) ≡ Err (at_index 0 unknown_key)
unknown_key_at_index_zero = refl

number_at_index_one : globs_of_value (array (item (string (codes "*.rs")) (item (number (unsigned 7)) no_items))) ≡ Err (at_index 1 not_text)
unfolding globs_on_literals
number_at_index_one = refl

fault_at_index_one : globs_of_value (array (item (string (codes "a")) (item (string (codes "[")) no_items))) ≡ Err (at_index 1 (of_kind (Glob (parse_error default_options (codes "[") UnclosedClass))))
unfolding globs_on_literals
fault_at_index_one = refl

object_is_no_array : globs_of_value (object no_members) ≡ Err not_array
object_is_no_array = refl
