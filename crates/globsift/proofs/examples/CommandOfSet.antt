-- Examples of arguments with `--set`, and the commands or errors that they give. Each row computes.
use Rattle.std.specs.Prelude.{◌≡◌, [], ◌∷◌, codes, refl}
use Rattle.serde_json.proofs.OnLiterals.{serde_json_on_literals}
use Rattle.globsift.proofs.examples.Terms.{globs_on_literals, command, error, plain, numbered, default, insensitive, separated}

-- ---- arrays that are accepted

array_of_one : command ("--set" ∷ "[\"*.rs\"]" ∷ []) ≡ plain (default "*.rs" ∷ [])
unfolding globs_on_literals serde_json_on_literals
array_of_one = refl

elements_in_order : command ("--set" ∷ "[\"src/**\",\"{a,b}\",\"src/**\"]" ∷ []) ≡ plain (default "src/**" ∷ default "{a,b}" ∷ default "src/**" ∷ [])
unfolding globs_on_literals serde_json_on_literals
elements_in_order = refl

spaces_around_elements : command ("--set" ∷ " [ \"*.rs\" , \"*\" ] " ∷ []) ≡ plain (default "*.rs" ∷ default "*" ∷ [])
unfolding globs_on_literals serde_json_on_literals
spaces_around_elements = refl

escaped_element : command ("--set" ∷ "[\"a\\u002ac\",\"d\"]" ∷ []) ≡ plain (default "a*c" ∷ default "d" ∷ [])
unfolding globs_on_literals serde_json_on_literals
escaped_element = refl

escaped_backslash : command ("--set" ∷ "[\"\\\\*\"]" ∷ []) ≡ plain (default "\\*" ∷ [])
unfolding globs_on_literals serde_json_on_literals
escaped_backslash = refl

empty_element : command ("--set" ∷ "[\"\"]" ∷ []) ≡ plain (default "" ∷ [])
unfolding globs_on_literals serde_json_on_literals
empty_element = refl

element_like_a_flag : command ("--set" ∷ "[\"-x\",\"--\"]" ∷ []) ≡ plain (default "-x" ∷ default "--" ∷ [])
unfolding globs_on_literals serde_json_on_literals
element_like_a_flag = refl

objects : command ("--set" ∷ "[{\"glob\":\"*.RS\",\"case_insensitive\":true},{\"glob\":\"a\"},\"*.rs\"]" ∷ [])
    ≡ plain (insensitive "*.RS" ∷ default "a" ∷ default "*.rs" ∷ [])
unfolding globs_on_literals serde_json_on_literals
objects = refl

last_value_of_a_repeated_key : command ("--set" ∷ "[{\"glob\":\"[\",\"literal_separator\":0,\"glob\":\"a\",\"literal_separator\":true}]" ∷ [])
    ≡ plain (separated "a" ∷ [])
unfolding globs_on_literals serde_json_on_literals
last_value_of_a_repeated_key = refl

empty_array : command ("--set" ∷ "[]" ∷ []) ≡ plain []
unfolding serde_json_on_literals
empty_array = refl

-- ---- beside `-n`

numbers_after : command ("--set" ∷ "[\"*.rs\",\"*.c\"]" ∷ "-n" ∷ []) ≡ numbered (default "*.rs" ∷ default "*.c" ∷ [])
unfolding globs_on_literals serde_json_on_literals
numbers_after = refl

numbers_before : command ("-n" ∷ "--set" ∷ "[\"*.c\"]" ∷ []) ≡ numbered (default "*.c" ∷ [])
unfolding globs_on_literals serde_json_on_literals
numbers_before = refl

numbers_on_both_sides : command ("-n" ∷ "-n" ∷ "--set" ∷ "[\"a\"]" ∷ "-n" ∷ []) ≡ numbered (default "a" ∷ [])
unfolding globs_on_literals serde_json_on_literals
numbers_on_both_sides = refl

empty_array_with_numbers : command ("--set" ∷ "[]" ∷ "-n" ∷ []) ≡ numbered []
unfolding serde_json_on_literals
empty_array_with_numbers = refl

-- ---- other arguments beside it

no_text : error ("--set" ∷ []) ≡ codes "--set takes a text"
no_text = refl

no_text_after_numbers : error ("-n" ∷ "--set" ∷ []) ≡ codes "--set takes a text"
no_text_after_numbers = refl

flag_before : error ("-i" ∷ "--set" ∷ "[]" ∷ []) ≡ codes "--set stands alone or beside -n"
flag_before = refl

glob_before : error ("a" ∷ "--set" ∷ []) ≡ codes "--set stands alone or beside -n"
unfolding globs_on_literals
glob_before = refl

unknown_flag_before : error ("-x" ∷ "--set" ∷ "[]" ∷ []) ≡ codes "unknown option '-x'"
unknown_flag_before = refl

bad_glob_before : error ("[" ∷ "--set" ∷ []) ≡ codes "error parsing glob '[': unclosed character class; missing ']'"
unfolding globs_on_literals
bad_glob_before = refl

unknown_flag_after : error ("--set" ∷ "[]" ∷ "-x" ∷ []) ≡ codes "--set stands alone or beside -n"
unknown_flag_after = refl

end_of_flags_after : error ("--set" ∷ "[]" ∷ "-n" ∷ "--" ∷ []) ≡ codes "--set stands alone or beside -n"
end_of_flags_after = refl

two_sets : error ("--set" ∷ "[]" ∷ "--set" ∷ "[]" ∷ []) ≡ codes "--set stands alone or beside -n"
two_sets = refl

text_is_read_last : error ("--set" ∷ "[" ∷ "-x" ∷ []) ≡ codes "--set stands alone or beside -n"
text_is_read_last = refl

-- ---- texts that are rejected

no_json : error ("--set" ∷ "[" ∷ []) ≡ codes "not a JSON text"
unfolding serde_json_on_literals
no_json = refl

next_argument_is_the_text : error ("--set" ∷ "-n" ∷ []) ≡ codes "not a JSON text"
unfolding serde_json_on_literals
next_argument_is_the_text = refl

double_dash_is_the_text : error ("--set" ∷ "--" ∷ []) ≡ codes "not a JSON text"
unfolding serde_json_on_literals
double_dash_is_the_text = refl

no_array : error ("--set" ∷ "{}" ∷ []) ≡ codes "expected an array of glob patterns"
unfolding serde_json_on_literals
no_array = refl

array_without_a_pattern : error ("--set" ∷ "[1.5]" ∷ []) ≡ codes "element 0: expected a glob pattern"
unfolding globs_on_literals serde_json_on_literals
array_without_a_pattern = refl

number_after_a_glob : error ("--set" ∷ "[\"*.rs\", 7]" ∷ []) ≡ codes "element 1: expected a glob pattern"
unfolding globs_on_literals serde_json_on_literals
number_after_a_glob = refl

object_with_an_unknown_key : error ("--set" ∷ "[{\"glob\":\"*.rs\",\"x\":true}]" ∷ []) ≡ codes "element 0: unknown key in a glob object"
unfolding globs_on_literals serde_json_on_literals
object_with_an_unknown_key = refl

object_with_a_number : error ("--set" ∷ "[{\"glob\":\"a\",\"literal_separator\":1}]" ∷ []) ≡ codes "element 0: expected true or false"
unfolding globs_on_literals serde_json_on_literals
object_with_a_number = refl

object_without_a_pattern : error ("--set" ∷ "[\"a\",{\"literal_separator\":true}]" ∷ []) ≡ codes "element 1: expected a glob pattern"
unfolding globs_on_literals serde_json_on_literals
object_without_a_pattern = refl

first_bad_element : error ("--set" ∷ "[\"a\",\"[\",\"{\"]" ∷ []) ≡ codes "element 1: error parsing glob '[': unclosed character class; missing ']'"
unfolding globs_on_literals serde_json_on_literals
first_bad_element = refl
