-- Examples of the indexes that a set returns for a path. Each row computes.
use Rattle.std.specs.Prelude.{◌≡◌, [], ◌∷◌, true, false, Some, refl}
use Rattle.set_matcher.specs.Work.{max_set_visits}
use Rattle.globset.proofs.examples.Words.{globs_on_literals, utf8, glob, insensitive, separated, globs, indexes, all_reported}

extension_and_recursive : indexes (globs ("*.rs" ∷ "src/lib.rs" ∷ "src/**/foo.rs" ∷ [])) "src/bar/baz/foo.rs" ≡ Some (0 ∷ 2 ∷ [])
unfolding globs_on_literals
extension_and_recursive = refl

two_of_two : indexes (globs ("*.rs" ∷ "src/**" ∷ [])) "src/a.rs" ≡ Some (0 ∷ 1 ∷ [])
unfolding globs_on_literals
two_of_two = refl

none_of_two : indexes (globs ("*.rs" ∷ "src/**" ∷ [])) "b.c" ≡ Some ([])
unfolding globs_on_literals
none_of_two = refl

second_of_two : indexes (globs ("*.rs" ∷ "src/**" ∷ [])) "src/" ≡ Some (1 ∷ [])
unfolding globs_on_literals
second_of_two = refl

one_extension : indexes (globs ("a/*.rs" ∷ "a/*.c" ∷ [])) "a/x.rs" ≡ Some (0 ∷ [])
unfolding globs_on_literals
one_extension = refl

two_dots_in_name : indexes (globs ("*.rs" ∷ [])) "a.b.rs" ≡ Some (0 ∷ [])
unfolding globs_on_literals
two_dots_in_name = refl

star_after_letter : indexes (globs ("**/a*x" ∷ [])) "a/x" ≡ Some (0 ∷ [])
unfolding globs_on_literals
star_after_letter = refl

-- ---- the empty set

empty_set : indexes ([]) "a" ≡ Some ([])
unfolding globs_on_literals
empty_set = refl

empty_set_on_the_empty_path : indexes ([]) "" ≡ Some ([])
unfolding globs_on_literals
empty_set_on_the_empty_path = refl

empty_set_has_all : all_reported [] "a" ≡ Some true
unfolding globs_on_literals
empty_set_has_all = refl

-- ---- excluded globs

excluded : indexes (globs ("**/.." ∷ [])) "parent/.." ≡ Some ([])
unfolding globs_on_literals
excluded = refl

excluded_is_not_all : all_reported (globs ("**/.." ∷ [])) "parent/.." ≡ Some false
unfolding globs_on_literals
excluded_is_not_all = refl

excluded_after_two_prefixes : indexes (globs ("**/**/.." ∷ [])) "parent/.." ≡ Some ([])
unfolding globs_on_literals
excluded_after_two_prefixes = refl

excluded_with_an_escape : indexes (globs ("**/\\.." ∷ [])) "parent/.." ≡ Some ([])
unfolding globs_on_literals
excluded_with_an_escape = refl

insensitive_is_not_excluded : indexes (insensitive "**/.." ∷ []) "parent/.." ≡ Some (0 ∷ [])
unfolding globs_on_literals
insensitive_is_not_excluded = refl

classes_are_not_excluded : indexes (globs ("**/[.][.]" ∷ [])) "parent/.." ≡ Some (0 ∷ [])
unfolding globs_on_literals
classes_are_not_excluded = refl

letter_is_not_excluded : indexes (globs ("**/a/.." ∷ [])) "x/a/.." ≡ Some (0 ∷ [])
unfolding globs_on_literals
letter_is_not_excluded = refl

-- ---- last components that are `..`

dots_alone : indexes (separated "**/.*" ∷ glob "**/[.][.]" ∷ []) ".." ≡ Some (0 ∷ 1 ∷ [])
unfolding globs_on_literals
dots_alone = refl

dots_after_one_component : indexes (separated "**/.*" ∷ glob "**/[.][.]" ∷ []) "foo/.." ≡ Some (0 ∷ 1 ∷ [])
unfolding globs_on_literals
dots_after_one_component = refl

dots_after_two_components : indexes (separated "**/.*" ∷ glob "**/[.][.]" ∷ []) "foo/bar/.." ≡ Some (0 ∷ 1 ∷ [])
unfolding globs_on_literals
dots_after_two_components = refl

star_and_dot : indexes (globs ("*." ∷ [])) "foo/.." ≡ Some (0 ∷ [])
unfolding globs_on_literals
star_and_dot = refl

any_and_dot : indexes (globs ("foo/?." ∷ [])) "foo/.." ≡ Some (0 ∷ [])
unfolding globs_on_literals
any_and_dot = refl

any_and_dots : indexes (globs ("?/.." ∷ [])) "a/.." ≡ Some (0 ∷ [])
unfolding globs_on_literals
any_and_dots = refl

-- ---- every glob

all_of_one : all_reported (globs ("**/foo/bar" ∷ [])) "a/foo/bar" ≡ Some true
unfolding globs_on_literals
all_of_one = refl

one_without_components_before : indexes (globs ("**/foo/bar" ∷ [])) "foo/bar" ≡ Some (0 ∷ [])
unfolding globs_on_literals
one_without_components_before = refl

not_a_part_of_a_component : indexes (globs ("**/foo/bar" ∷ [])) "foofoo/bar" ≡ Some ([])
unfolding globs_on_literals
not_a_part_of_a_component = refl

all_of_two_not : all_reported (globs ("a/*.rs" ∷ "a/*.c" ∷ [])) "a/x.rs" ≡ Some false
unfolding globs_on_literals
all_of_two_not = refl

all_of_three : all_reported (globs ("*.rs" ∷ "**/m*.rs" ∷ "a/*.rs" ∷ [])) "a/main.rs" ≡ Some true
unfolding globs_on_literals
all_of_three = refl

all_of_three_not_without_folder : all_reported (globs ("*.rs" ∷ "**/m*.rs" ∷ "a/*.rs" ∷ [])) "main.rs" ≡ Some false
unfolding globs_on_literals
all_of_three_not_without_folder = refl

all_of_three_not_of_another_name : all_reported (globs ("*.rs" ∷ "**/m*.rs" ∷ "a/*.rs" ∷ [])) "a/lib.rs" ≡ Some false
unfolding globs_on_literals
all_of_three_not_of_another_name = refl

-- ---- options of several kinds, and equal globs

separated_in_a_folder : indexes (separated "**/.venv*" ∷ separated "**/*.py[cod]" ∷ separated "src/*" ∷ []) "src/module.pyc" ≡ Some (1 ∷ 2 ∷ [])
unfolding globs_on_literals
separated_in_a_folder = refl

separated_in_two_folders : indexes (separated "**/.venv*" ∷ separated "**/*.py[cod]" ∷ separated "src/*" ∷ []) "src/nested/module.pyc" ≡ Some (1 ∷ [])
unfolding globs_on_literals
separated_in_two_folders = refl

separated_with_a_leading_dot : indexes (separated "**/.venv*" ∷ separated "**/*.py[cod]" ∷ separated "src/*" ∷ []) "src/.venv-new" ≡ Some (0 ∷ 2 ∷ [])
unfolding globs_on_literals
separated_with_a_leading_dot = refl

two_options_without_slash : indexes (separated "*.c" ∷ glob "*.c" ∷ []) "a.c" ≡ Some (0 ∷ 1 ∷ [])
unfolding globs_on_literals
two_options_without_slash = refl

two_options_with_slash : indexes (separated "*.c" ∷ glob "*.c" ∷ []) "x/a.c" ≡ Some (1 ∷ [])
unfolding globs_on_literals
two_options_with_slash = refl

equal_globs : indexes (globs ("aaaaaaaaaaaaaaaaaaaaaaaaaaaaaaaaaaaaaaaaaaaaaaaaaaaaaaaaaaaaaaaaa" ∷ "aaaaaaaaaaaaaaaaaaaaaaaaaaaaaaaaaaaaaaaaaaaaaaaaaaaaaaaaaaaaaaaaa" ∷ [])) "aaaaaaaaaaaaaaaaaaaaaaaaaaaaaaaaaaaaaaaaaaaaaaaaaaaaaaaaaaaaaaaaa" ≡ Some (0 ∷ 1 ∷ [])
unfolding globs_on_literals
equal_globs = refl

equal_globs_on_another_path : indexes (globs ("aaaaaaaaaaaaaaaaaaaaaaaaaaaaaaaaaaaaaaaaaaaaaaaaaaaaaaaaaaaaaaaaa" ∷ "aaaaaaaaaaaaaaaaaaaaaaaaaaaaaaaaaaaaaaaaaaaaaaaaaaaaaaaaaaaaaaaaa" ∷ [])) "a" ≡ Some ([])
unfolding globs_on_literals
equal_globs_on_another_path = refl

-- ---- visits

nine_stars_on_nine_letters : max_set_visits (globs ("a*a*a*a*a*a*a*a*a" ∷ [])) (utf8 "aaaaaaaaa") ≡ 744
unfolding globs_on_literals
nine_stars_on_nine_letters = refl

literal_globs : max_set_visits (globs ("abcdefgh" ∷ "ijklmnop" ∷ "qrstuvwx" ∷ [])) (utf8 "abcdefgx") ≡ 22
unfolding globs_on_literals
literal_globs = refl

direct_globs : max_set_visits (globs ("*.rs" ∷ "a*" ∷ "**/x/y" ∷ [])) (utf8 "b/x/y") ≡ 16
unfolding globs_on_literals
direct_globs = refl

direct_globs_and_another : max_set_visits (globs ("*.rs" ∷ "a*" ∷ "**/x/y" ∷ "a?c" ∷ [])) (utf8 "b/x/y") ≡ 112
unfolding globs_on_literals
direct_globs_and_another = refl

absent_ending : max_set_visits (globs ("a/*.rs" ∷ [])) (utf8 "a/b.c") ≡ 16
unfolding globs_on_literals
absent_ending = refl

ending : max_set_visits (globs ("a/*.rs" ∷ [])) (utf8 "a/b.rs") ≡ 214
unfolding globs_on_literals
ending = refl

globs_for_every_path : max_set_visits (globs ("**" ∷ "*" ∷ "**/*" ∷ [])) (utf8 "") ≡ 6
unfolding globs_on_literals
globs_for_every_path = refl

insensitive_glob : max_set_visits (insensitive "a" ∷ []) (utf8 "a") ≡ 24
unfolding globs_on_literals
insensitive_glob = refl
