-- Examples of arguments without `--set`, and the commands or errors that they give. Each row computes.
use Rattle.std.specs.Prelude.{◌≡◌, [], ◌∷◌, true, false, codes, refl}
use Rattle.globsift.proofs.examples.Terms.{globs_on_literals, command, error, plain, numbered, glob_with, default, insensitive, separated, empty_kept, unclosed, unescaped}

-- ---- globs

one_glob : command ("**/*.rs" ∷ []) ≡ plain (default "**/*.rs" ∷ [])
unfolding globs_on_literals
one_glob = refl

globs_in_order : command ("b" ∷ "a" ∷ "b" ∷ []) ≡ plain (default "b" ∷ default "a" ∷ default "b" ∷ [])
unfolding globs_on_literals
globs_in_order = refl

empty_argument_is_the_empty_glob : command ("" ∷ []) ≡ plain (default "" ∷ [])
unfolding globs_on_literals
empty_argument_is_the_empty_glob = refl

-- ---- each flag

flag_i : command ("-i" ∷ "*.RS" ∷ []) ≡ plain (insensitive "*.RS" ∷ [])
unfolding globs_on_literals
flag_i = refl

flag_s : command ("-s" ∷ "*.c" ∷ []) ≡ plain (separated "*.c" ∷ [])
unfolding globs_on_literals
flag_s = refl

flag_e : command ("-e" ∷ "{,a}b" ∷ []) ≡ plain (empty_kept "{,a}b" ∷ [])
unfolding globs_on_literals
flag_e = refl

flag_u : command ("-u" ∷ "[a" ∷ []) ≡ plain (unclosed "[a" ∷ [])
unfolding globs_on_literals
flag_u = refl

flag_b : command ("-b" ∷ "a\\" ∷ []) ≡ plain (unescaped "a\\" ∷ [])
unfolding globs_on_literals
flag_b = refl

all_flags : command ("-b" ∷ "-u" ∷ "-e" ∷ "-s" ∷ "-i" ∷ "a" ∷ []) ≡ plain (glob_with true true true true true "a" ∷ [])
unfolding globs_on_literals
all_flags = refl

flag_given_twice : command ("-i" ∷ "-i" ∷ "a" ∷ []) ≡ plain (insensitive "a" ∷ [])
unfolding globs_on_literals
flag_given_twice = refl

flag_holds_on : command ("-i" ∷ "a" ∷ "b" ∷ []) ≡ plain (insensitive "a" ∷ insensitive "b" ∷ [])
unfolding globs_on_literals
flag_holds_on = refl

flag_after_its_glob : command ("*.RS" ∷ "-i" ∷ []) ≡ plain (default "*.RS" ∷ [])
unfolding globs_on_literals
flag_after_its_glob = refl

flags_between_globs : command ("a" ∷ "-s" ∷ "b" ∷ "-i" ∷ "c" ∷ []) ≡ plain (default "a" ∷ separated "b" ∷ glob_with true true false false false "c" ∷ [])
unfolding globs_on_literals
flags_between_globs = refl

-- ---- `-r`

reset : command ("-i" ∷ "-s" ∷ "-e" ∷ "-u" ∷ "-b" ∷ "-r" ∷ "*.RS" ∷ []) ≡ plain (default "*.RS" ∷ [])
unfolding globs_on_literals
reset = refl

reset_before : command ("-r" ∷ "-i" ∷ "*.RS" ∷ []) ≡ plain (insensitive "*.RS" ∷ [])
unfolding globs_on_literals
reset_before = refl

reset_between : command ("-s" ∷ "*.c" ∷ "-r" ∷ "*.c" ∷ []) ≡ plain (separated "*.c" ∷ default "*.c" ∷ [])
unfolding globs_on_literals
reset_between = refl

reset_leaves_numbers : command ("-n" ∷ "-r" ∷ "a" ∷ []) ≡ numbered (default "a" ∷ [])
unfolding globs_on_literals
reset_leaves_numbers = refl

-- ---- `-n`

numbers_first : command ("-n" ∷ "a" ∷ "b" ∷ []) ≡ numbered (default "a" ∷ default "b" ∷ [])
unfolding globs_on_literals
numbers_first = refl

numbers_between : command ("a" ∷ "-n" ∷ "b" ∷ []) ≡ numbered (default "a" ∷ default "b" ∷ [])
unfolding globs_on_literals
numbers_between = refl

numbers_last : command ("*.c" ∷ "-n" ∷ "-r" ∷ []) ≡ numbered (default "*.c" ∷ [])
unfolding globs_on_literals
numbers_last = refl

numbers_before_the_end_of_flags : command ("-n" ∷ "--" ∷ "a" ∷ []) ≡ numbered (default "a" ∷ [])
unfolding globs_on_literals
numbers_before_the_end_of_flags = refl

-- ---- `--`

dash_after_the_end_of_flags : command ("--" ∷ "-x" ∷ []) ≡ plain (default "-x" ∷ [])
unfolding globs_on_literals
dash_after_the_end_of_flags = refl

flags_after_it_are_globs : command ("--" ∷ "--" ∷ "-n" ∷ []) ≡ plain (default "--" ∷ default "-n" ∷ [])
unfolding globs_on_literals
flags_after_it_are_globs = refl

flags_before_it_hold : command ("-s" ∷ "*.c" ∷ "--" ∷ "-r" ∷ "d*" ∷ []) ≡ plain (separated "*.c" ∷ separated "-r" ∷ separated "d*" ∷ [])
unfolding globs_on_literals
flags_before_it_hold = refl

set_after_it_is_a_glob : command ("--" ∷ "--set" ∷ "x" ∷ []) ≡ plain (default "--set" ∷ default "x" ∷ [])
unfolding globs_on_literals
set_after_it_is_a_glob = refl

-- ---- errors

no_arguments : error [] ≡ codes "no glob given"
no_arguments = refl

flags_alone : error ("-n" ∷ "-i" ∷ []) ≡ codes "no glob given"
flags_alone = refl

nothing_after_the_end_of_flags : error ("-i" ∷ "--" ∷ []) ≡ codes "no glob given"
nothing_after_the_end_of_flags = refl

unknown_flag : error ("-x" ∷ "a" ∷ []) ≡ codes "unknown option '-x'"
unknown_flag = refl

dash_alone : error ("-" ∷ []) ≡ codes "unknown option '-'"
dash_alone = refl

flags_in_one_argument : error ("-is" ∷ "a" ∷ []) ≡ codes "unknown option '-is'"
flags_in_one_argument = refl

flag_in_upper_case : error ("-I" ∷ "a" ∷ []) ≡ codes "unknown option '-I'"
flag_in_upper_case = refl

set_with_a_sign : error ("--set=[]" ∷ []) ≡ codes "unknown option '--set=[]'"
set_with_a_sign = refl

open_group : error ("{a" ∷ []) ≡ codes "error parsing glob '{a': unclosed alternate group; missing '}' (maybe escape '{' with '[{]'?)"
unfolding globs_on_literals
open_group = refl

open_class_after_its_flag_was_reset : error ("-u" ∷ "[" ∷ "-r" ∷ "[" ∷ []) ≡ codes "error parsing glob '[': unclosed character class; missing ']'"
unfolding globs_on_literals
open_class_after_its_flag_was_reset = refl

glob_after_the_end_of_flags : error ("--" ∷ "a\\" ∷ []) ≡ codes "error parsing glob 'a\\': dangling '\\'"
unfolding globs_on_literals
glob_after_the_end_of_flags = refl

-- ---- the first error from the left

unknown_flag_before_a_bad_glob : error ("a" ∷ "-x" ∷ "[" ∷ []) ≡ codes "unknown option '-x'"
unfolding globs_on_literals
unknown_flag_before_a_bad_glob = refl

bad_glob_before_an_unknown_flag : error ("[" ∷ "-x" ∷ []) ≡ codes "error parsing glob '[': unclosed character class; missing ']'"
unfolding globs_on_literals
bad_glob_before_an_unknown_flag = refl

first_of_two_bad_globs : error ("a" ∷ "[z-a]" ∷ "{" ∷ []) ≡ codes "error parsing glob '[z-a]': invalid range; 'z' > 'a'"
unfolding globs_on_literals
first_of_two_bad_globs = refl
