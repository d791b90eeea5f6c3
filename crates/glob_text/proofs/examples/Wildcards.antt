-- Examples of `?` and `*`: the paths that a glob matches, and paths that it does not. Each row computes.
use Rattle.std.specs.Prelude.{[], ◌∷◌, refl}
use Rattle.glob_syntax.specs.declared.options.TheConstants.Options.{DEFAULT}
use Rattle.glob_text.proofs.examples.Unfoldings.{glob_on_literals}
use Rattle.glob_syntax.proofs.examples.Words.{AreTrue, whole}
use Rattle.glob_text.proofs.examples.Words.{matches_bytes, matches_no_bytes, matches_each, matches_none}

matches : AreTrue (
    matches_each DEFAULT "a*b*c" ("abc" ∷ "a_b_c" ∷ "a___b___c" ∷ [])  -- stars between letters
    ∷ matches_none DEFAULT "a*b*c" ("abcd" ∷ [])
    ∷ matches_each DEFAULT "abc*abc*abc" ("abcabcabcabcabcabcabc" ∷ [])  -- words between stars
    ∷ matches_none DEFAULT "abc*abc*abc" ("abcabcabcabcabcabcabca" ∷ [])
    ∷ matches_each DEFAULT "*.rs" (".rs" ∷ [])  -- star may be empty
    ∷ matches_each DEFAULT "some/*/needle.txt" ("some/one/needle.txt" ∷ [])  -- star between slashes
    ∷ matches_none DEFAULT "some/*/needle.txt" ("some/needle.txt" ∷ [])
    ∷ matches_each DEFAULT "*hello.txt" ("hello.txt" ∷ "some\\path\\to\\hello.txt" ∷ "/an/path/hello.txt" ∷ [])  -- star matches slashes
    ∷ matches_none DEFAULT "*hello.txt" ("hello.txt-and" ∷ [])
    ∷ matches_each DEFAULT "*some/path" ("some/path" ∷ "a/some/path" ∷ [])  -- star then path
    ∷ matches_none DEFAULT "*some/path" ("some/other/path" ∷ [])
    ∷ matches_none DEFAULT "/*.c" ("mozilla-sha1/sha1.c" ∷ [])  -- slash then star
    ∷ matches_each DEFAULT "?" ("a" ∷ "/" ∷ [])  -- question mark matches one byte
    ∷ matches_none DEFAULT "?" ("☃" ∷ "" ∷ [])
    ∷ matches_each DEFAULT "???" ("☃" ∷ [])  -- three bytes
    ∷ matches_bytes DEFAULT "?" (0xFF ∷ [])  -- any byte
    ∷ matches_each DEFAULT "*.rs" (".rs" ∷ "a.b.rs" ∷ "src/a.rs" ∷ "src/bar/baz/foo.rs" ∷ [])  -- star matches all
    ∷ matches_none DEFAULT "*.rs" ("b.c" ∷ "src/" ∷ "a.rsx" ∷ [])
    ∷ matches_each DEFAULT "a*a*a*a*a*a*a*a*a" ("aaaaaaaaa" ∷ [])  -- eight stars too short
    ∷ matches_none DEFAULT "a*a*a*a*a*a*a*a*a" ("aaaaaaaa" ∷ [])
    ∷ matches_each DEFAULT "*foo*" ("ZfooZquuxZ" ∷ [])  -- word between stars
    ∷ matches_none DEFAULT "*foo*" ("nada" ∷ [])
    ∷ matches_each DEFAULT "*bar*" ("bar" ∷ [])  -- another word between stars
    ∷ matches_none DEFAULT "*bar*" ("ZfooZquuxZ" ∷ "nada" ∷ [])
    ∷ matches_each DEFAULT "a*" ("ab/c/def" ∷ "abc" ∷ "a" ∷ [])  -- letter then star
    ∷ matches_none DEFAULT "a*" ("b" ∷ [])
    ∷ matches_each DEFAULT "ab*" ("ab/c/def" ∷ "ab/x" ∷ "ab" ∷ [])  -- letters then star
    ∷ matches_none DEFAULT "ab*" ("a" ∷ [])
    ∷ matches_each DEFAULT "ab/c*" ("ab/c/def" ∷ "ab/cd" ∷ [])  -- path then star
    ∷ matches_none DEFAULT "ab/c*" ("abc" ∷ "ab/x" ∷ "a" ∷ [])
    ∷ matches_each DEFAULT "*s" ("a/b/c/main.rs" ∷ "foo.rs" ∷ "as" ∷ [])  -- star then letter
    ∷ matches_none DEFAULT "*s" ("s/a" ∷ [])
    ∷ matches_each DEFAULT "a/*.rs" ("a/x.rs" ∷ "a/main.rs" ∷ "a/lib.rs" ∷ [])  -- folder then star
    ∷ matches_none DEFAULT "a/*.rs" ("main.rs" ∷ [])
    ∷ matches_each DEFAULT "a/*.c" ("a/x.c" ∷ [])  -- folder then star of another ending
    ∷ matches_none DEFAULT "a/*.c" ("a/x.rs" ∷ [])
    ∷ matches_each DEFAULT "src/*" ("src/foo.rs" ∷ "src/bar.c" ∷ [])  -- sources of one folder
    ∷ matches_none DEFAULT "src/*" ("test.rs" ∷ [])
    ∷ matches_each DEFAULT "*/main.rs" ("a/b/c/main.rs" ∷ [])  -- main in a folder
    ∷ matches_none DEFAULT "*/main.rs" ("foo.rs" ∷ "as" ∷ [])
    ∷ [])
unfolding glob_on_literals
matches = refl

-- ---- whole characters

whole_characters : AreTrue (
    matches_each whole "?" ("☃" ∷ "é" ∷ "a" ∷ "/" ∷ "😀" ∷ [])  -- question whole
    ∷ matches_none whole "??" ("☃" ∷ "a" ∷ "" ∷ [])  -- questions whole not
    ∷ matches_each whole "a?b" ("aéb" ∷ [])  -- question whole between
    ∷ matches_no_bytes whole "?" (0xFF ∷ [])  -- question no first byte
    ∷ matches_no_bytes whole "?" (0xC0 ∷ 0x80 ∷ [])  -- question longer than the shortest
    ∷ matches_no_bytes whole "?" (0xED ∷ 0xA0 ∷ 0x80 ∷ [])  -- question surrogate
    ∷ matches_no_bytes whole "?" (0xF4 ∷ 0x90 ∷ 0x80 ∷ 0x80 ∷ [])  -- question above all
    ∷ matches_bytes whole "?" (0xF4 ∷ 0x8F ∷ 0xBF ∷ 0xBF ∷ [])  -- question last
    ∷ matches_bytes whole "*?" (0xFF ∷ 0xE2 ∷ 0x98 ∷ 0x83 ∷ [])  -- star then question whole
    ∷ matches_no_bytes whole "*?" (0xE2 ∷ 0x98 ∷ 0x83 ∷ 0xFF ∷ [])
    ∷ matches_none whole "[!a]" ("☃" ∷ [])  -- class matches bytes
    ∷ [])
unfolding glob_on_literals
whole_characters = refl
