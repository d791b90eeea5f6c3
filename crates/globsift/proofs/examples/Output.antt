-- Examples of what the program writes for its arguments and input. Each row computes.
use Rattle.std.specs.Prelude.{◌≡◌, [], ◌∷◌, codes, refl}
use Rattle.serde_json.proofs.OnLiterals.{serde_json_on_literals}
use Rattle.globsift.specs.Output.{index_text}
use Rattle.globsift.proofs.examples.Terms.{globs_on_literals, run, writes, writes_nothing}

-- ---- indexes

index_alone : index_text (0 ∷ []) ≡ codes "0\t"
unfolding globs_on_literals
index_alone = refl

indexes_of_several_digits : index_text (0 ∷ 7 ∷ 10 ∷ 123 ∷ []) ≡ codes "0,7,10,123\t"
unfolding globs_on_literals
indexes_of_several_digits = refl

-- ---- plain output

one_line_of_two : run ("**/*.rs" ∷ []) "src/a.rs\nb.c\n" ≡ writes "src/a.rs\n"
unfolding globs_on_literals
one_line_of_two = refl

unended_rest_gets_lf : run ("a?c" ∷ []) "abc\nac\na/c" ≡ writes "abc\na/c\n"
unfolding globs_on_literals
unended_rest_gets_lf = refl

no_line_matches : run ("*.c" ∷ []) "a.rs\n" ≡ writes_nothing
unfolding globs_on_literals
no_line_matches = refl

no_input : run ("*" ∷ []) "" ≡ writes_nothing
unfolding globs_on_literals
no_input = refl

empty_line_is_the_empty_path : run ("*" ∷ []) "\na\n\n" ≡ writes "\na\n\n"
unfolding globs_on_literals
empty_line_is_the_empty_path = refl

empty_lines_left_out : run ("?" ∷ []) "\na\n\n" ≡ writes "a\n"
unfolding globs_on_literals
empty_lines_left_out = refl

cr_is_part_of_the_path : run ("*.c" ∷ []) "a.c\r\n" ≡ writes_nothing
unfolding globs_on_literals
cr_is_part_of_the_path = refl

cr_in_the_glob : run ("*.c\r" ∷ []) "a.c\r\na.c\n" ≡ writes "a.c\r\n"
unfolding globs_on_literals
cr_in_the_glob = refl

several_globs_in_input_order : run ("a" ∷ "b" ∷ []) "b\nc\na" ≡ writes "b\na\n"
unfolding globs_on_literals
several_globs_in_input_order = refl

-- ---- numbered output

indexes_ascend : run ("-n" ∷ "*.rs" ∷ "src/**" ∷ []) "src/a.rs\nb.c\nsrc/" ≡ writes "0,1\tsrc/a.rs\n1\tsrc/\n"
unfolding globs_on_literals
indexes_ascend = refl

each_glob_has_its_options : run ("-n" ∷ "-s" ∷ "*.c" ∷ "-r" ∷ "*.c" ∷ []) "a.c\nx/a.c\n" ≡ writes "0,1\ta.c\n1\tx/a.c\n"
unfolding globs_on_literals
each_glob_has_its_options = refl

equal_globs_are_two : run ("a" ∷ "b" ∷ "a" ∷ "-n" ∷ []) "b\na\nc\n" ≡ writes "1\tb\n0,2\ta\n"
unfolding globs_on_literals
equal_globs_are_two = refl

no_line_to_number : run ("-n" ∷ "*.c" ∷ []) "a.rs\n" ≡ writes_nothing
unfolding globs_on_literals
no_line_to_number = refl

-- such a glob has an index, but the set never returns it
glob_that_a_set_leaves_out : run ("-n" ∷ "**/.." ∷ "*" ∷ []) "..\nx/..\n" ≡ writes "1\t..\n1\tx/..\n"
unfolding globs_on_literals
glob_that_a_set_leaves_out = refl

alone_it_writes_nothing : run ("**/.." ∷ []) "parent/..\n" ≡ writes_nothing
unfolding globs_on_literals
alone_it_writes_nothing = refl

folding_case_it_is_kept : run ("-i" ∷ "**/.." ∷ []) "parent/..\n" ≡ writes "parent/..\n"
unfolding globs_on_literals
folding_case_it_is_kept = refl

-- ---- a JSON array

array_with_indexes : run ("--set" ∷ "[\"*.rs\",\"*.c\"]" ∷ "-n" ∷ []) "a.c\n" ≡ writes "1\ta.c\n"
unfolding globs_on_literals serde_json_on_literals
array_with_indexes = refl

object_and_text : run ("--set" ∷ "[{\"glob\":\"*.RS\",\"case_insensitive\":true},\"*.rs\"]" ∷ "-n" ∷ []) "a.rs\n" ≡ writes "0,1\ta.rs\n"
unfolding globs_on_literals serde_json_on_literals
object_and_text = refl

empty_array_writes_nothing : run ("--set" ∷ "[]" ∷ []) "a\n\n" ≡ writes_nothing
unfolding globs_on_literals serde_json_on_literals
empty_array_writes_nothing = refl
