-- Examples of `**` in a path: the paths that a glob matches, and paths that it does not. Each row computes.
use Rattle.std.specs.Prelude.{[], ◌∷◌, refl}
use Rattle.glob_syntax.specs.declared.options.TheConstants.Options.{DEFAULT}
use Rattle.glob_text.proofs.examples.Unfoldings.{glob_on_literals}
use Rattle.glob_text.proofs.examples.Words.{matches_each, matches_none}
use Rattle.glob_syntax.proofs.examples.Words.{AreTrue}

matches : AreTrue (
    matches_each DEFAULT "some/**/needle.txt" ("some/needle.txt" ∷ "some/one/two/needle.txt" ∷ [])  -- middle
    ∷ matches_none DEFAULT "some/**/needle.txt" ("some/other/notthis.txt" ∷ [])
    ∷ matches_each DEFAULT "some/**/**/needle.txt" ("some/needle.txt" ∷ "some/one/needle.txt" ∷ [])  -- middle of two pairs
    ∷ matches_none DEFAULT "some/**/**/needle.txt" ("some/other/notthis.txt" ∷ [])
    ∷ matches_each DEFAULT "**" ("abcde" ∷ "" ∷ ".asdf" ∷ "/x/.asdf" ∷ [])  -- everything
    ∷ matches_each DEFAULT "**/test" ("one/two/test" ∷ "test" ∷ [])  -- prefix
    ∷ matches_each DEFAULT "/**/test" ("/one/two/test" ∷ "/test" ∷ [])  -- middle at the start
    ∷ matches_none DEFAULT "/**/test" ("test" ∷ "/notthis" ∷ [])
    ∷ matches_each DEFAULT "**/.*" (".abc" ∷ "abc/.abc" ∷ [])  -- prefix then dot
    ∷ matches_none DEFAULT "**/.*" ("ab.c" ∷ "abc/ab.c" ∷ [])
    ∷ matches_each DEFAULT "**/foo/bar" ("foo/bar" ∷ [])  -- prefix then path
    ∷ matches_none DEFAULT "**/foo/bar" ("foofoo/bar" ∷ [])
    ∷ matches_each DEFAULT ".*/**" (".abc/abc" ∷ [])  -- dot and star then suffix
    ∷ matches_none DEFAULT ".*/**" ("a.bc" ∷ "abc/a.bc" ∷ ".abc" ∷ [])
    ∷ matches_each DEFAULT "test/**" ("test/" ∷ "test/one/two" ∷ [])  -- suffix
    ∷ matches_none DEFAULT "test/**" ("test" ∷ [])
    ∷ matches_each DEFAULT "foo/**" ("foo/" ∷ "foo/a" ∷ "foo/a/b" ∷ [])  -- suffix needs a slash
    ∷ matches_none DEFAULT "foo/**" ("foo" ∷ "foofoo/a" ∷ [])
    ∷ matches_each DEFAULT "**" ("" ∷ "a" ∷ "a/b" ∷ "/" ∷ [])  -- run alone
    ∷ matches_each DEFAULT "**/" ("a" ∷ "" ∷ "a/b" ∷ [])  -- prefix alone
    ∷ matches_each DEFAULT "**/foo/bar" ("foo/bar" ∷ "a/foo/bar" ∷ "/foo/bar" ∷ [])  -- prefix before components
    ∷ matches_none DEFAULT "**/foo/bar" ("foofoo/bar" ∷ [])
    ∷ matches_each DEFAULT "a/**/b" ("a/b" ∷ "a/x/b" ∷ "a/x/y/b" ∷ "a//b" ∷ [])  -- middle matches one slash or more
    ∷ matches_none DEFAULT "a/**/b" ("ab" ∷ "axb" ∷ "a/xb" ∷ [])
    ∷ matches_each DEFAULT "a/**//**" ("a//" ∷ "a/x//" ∷ "a/x//b" ∷ [])  -- middle and suffix
    ∷ matches_none DEFAULT "a/**//**" ("a/" ∷ "a/x" ∷ [])
    ∷ matches_each DEFAULT "src/**/foo.rs" ("src/bar/baz/foo.rs" ∷ "src/foo.rs" ∷ [])  -- middle before a name
    ∷ matches_none DEFAULT "src/**/foo.rs" ("src/bar/baz.rs" ∷ [])
    ∷ matches_each DEFAULT "src/**" ("src/a.rs" ∷ "src/" ∷ [])  -- suffix of a folder
    ∷ matches_none DEFAULT "src/**" ("b.c" ∷ [])
    ∷ matches_each DEFAULT "**/a*x" ("a/x" ∷ "b/ax" ∷ "ax" ∷ [])  -- prefix then letters and star
    ∷ matches_none DEFAULT "**/a*x" ("b/xa" ∷ [])
    ∷ matches_each DEFAULT "**/aaa" ("x/aaa" ∷ "aaa" ∷ [])  -- last component of a length
    ∷ matches_none DEFAULT "**/aaa" ("x/aa" ∷ "x/aaaa" ∷ [])
    ∷ matches_each DEFAULT "**/abc" ("foo/abc" ∷ "abc" ∷ [])  -- prefix then letters
    ∷ matches_none DEFAULT "**/abc" ("foo/a.c" ∷ [])
    ∷ matches_each DEFAULT "**/a.c" ("foo/a.c" ∷ [])  -- prefix then file
    ∷ matches_none DEFAULT "**/a.c" ("foo/abc" ∷ [])
    ∷ matches_each DEFAULT "**/m*.rs" ("a/main.rs" ∷ "main.rs" ∷ [])  -- prefix letter and star
    ∷ matches_none DEFAULT "**/m*.rs" ("a/lib.rs" ∷ [])
    ∷ matches_each DEFAULT "src/**/*.rs" ("src/grep/src/main.rs" ∷ "src/lib.rs" ∷ [])  -- sources below
    ∷ matches_none DEFAULT "src/**/*.rs" ("foo.rs" ∷ "src/foo.c" ∷ [])
    ∷ matches_each DEFAULT "**/*.rs" ("foo/a.rs" ∷ "src/foo.rs" ∷ "test.rs" ∷ [])  -- sources anywhere
    ∷ matches_none DEFAULT "**/*.rs" ("foo/a.c" ∷ [])
    ∷ [])
unfolding glob_on_literals
matches = refl
