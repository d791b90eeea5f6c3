-- Examples of star reading under the default options: the tokens of runs of `*` and of the `/` next to them. Each example is
-- computed. A run has two stars, a pair is a run and a `/`, and a prefix, a middle and a suffix are the three recursive
-- tokens.
use Rattle.std.specs.Prelude.{[], ◌∷◌, ◌++◌, Ok, codes, refl}
use Rattle.glob_syntax.specs.declared.options.TheConstants.Options.{DEFAULT}
use Rattle.glob_syntax.specs.Token.{Any, ZeroOrMore, RecursivePrefix, RecursiveSuffix, RecursiveZeroOrMore, end}
use Rattle.glob_syntax.specs.Reading.{reading}
use Rattle.glob_syntax.proofs.examples.Unfoldings.{reading_on_literals}
use Rattle.glob_syntax.proofs.examples.Words.{AreEqual, tokens, literals, group}

reading_rows : AreEqual (
    (reading DEFAULT (codes ""), Ok end)  -- empty text
    ∷ (reading DEFAULT (codes "*"), Ok (tokens (ZeroOrMore ∷ [])))  -- star
    ∷ (reading DEFAULT (codes "**"), Ok (tokens (RecursivePrefix ∷ [])))  -- run as the whole glob
    ∷ (reading DEFAULT (codes "**/"), Ok (tokens (RecursivePrefix ∷ [])))  -- prefix
    ∷ (reading DEFAULT (codes "**/**"), Ok (tokens (RecursivePrefix ∷ [])))  -- prefix and last run
    ∷ (reading DEFAULT (codes "**/**/"), Ok (tokens (RecursivePrefix ∷ [])))  -- prefix of two pairs
    ∷ (reading DEFAULT (codes "**/**/**"), Ok (tokens (RecursivePrefix ∷ [])))  -- prefix of two pairs and last run
    ∷ (reading DEFAULT (codes "**/*"), Ok (tokens (RecursivePrefix ∷ ZeroOrMore ∷ [])))  -- prefix then star
    ∷ (reading DEFAULT (codes "**/**/*"), Ok (tokens (RecursivePrefix ∷ ZeroOrMore ∷ [])))  -- prefix of two pairs then star
    ∷ (reading DEFAULT (codes "**/b"), Ok (tokens (RecursivePrefix ∷ literals "b")))  -- prefix then letter
    ∷ (reading DEFAULT (codes "**/**a"), Ok (tokens (RecursivePrefix ∷ ZeroOrMore ∷ ZeroOrMore ∷ literals "a")))  -- prefix then run and letter
    ∷ (reading DEFAULT (codes "**/***"), Ok (tokens (RecursivePrefix ∷ ZeroOrMore ∷ ZeroOrMore ∷ ZeroOrMore ∷ [])))  -- prefix then three stars
    ∷ (reading DEFAULT (codes "**//**"), Ok (tokens (RecursivePrefix ∷ RecursiveSuffix ∷ [])))  -- prefix then suffix
    ∷ (reading DEFAULT (codes "**a"), Ok (tokens (ZeroOrMore ∷ ZeroOrMore ∷ literals "a")))  -- run then letter
    ∷ (reading DEFAULT (codes "**,a"), Ok (tokens (ZeroOrMore ∷ ZeroOrMore ∷ literals ",a")))  -- run then comma outside groups
    ∷ (reading DEFAULT (codes "a**"), Ok (tokens (literals "a" ++ ZeroOrMore ∷ ZeroOrMore ∷ [])))  -- letter then run
    ∷ (reading DEFAULT (codes "a**b"), Ok (tokens (literals "a" ++ ZeroOrMore ∷ ZeroOrMore ∷ literals "b")))  -- run between letters
    ∷ (reading DEFAULT (codes "***"), Ok (tokens (ZeroOrMore ∷ ZeroOrMore ∷ ZeroOrMore ∷ [])))  -- three stars
    ∷ (reading DEFAULT (codes "****/a"), Ok (tokens (ZeroOrMore ∷ ZeroOrMore ∷ ZeroOrMore ∷ ZeroOrMore ∷ literals "/a")))  -- four stars then slash
    ∷ (reading DEFAULT (codes "/**"), Ok (tokens (RecursiveSuffix ∷ [])))  -- suffix
    ∷ (reading DEFAULT (codes "//**"), Ok (tokens (literals "/" ++ RecursiveSuffix ∷ [])))  -- slash then suffix
    ∷ (reading DEFAULT (codes "\\/**"), Ok (tokens (RecursiveSuffix ∷ [])))  -- suffix from escaped slash
    ∷ (reading DEFAULT (codes "/**\\/"), Ok (tokens (literals "/" ++ ZeroOrMore ∷ ZeroOrMore ∷ literals "/")))  -- no pair by escaped slash
    ∷ (reading DEFAULT (codes "/**a"), Ok (tokens (literals "/" ++ ZeroOrMore ∷ ZeroOrMore ∷ literals "a")))  -- slash then run and letter
    ∷ (reading DEFAULT (codes "/***"), Ok (tokens (literals "/" ++ ZeroOrMore ∷ ZeroOrMore ∷ ZeroOrMore ∷ [])))  -- slash then three stars
    ∷ (reading DEFAULT (codes "a/**"), Ok (tokens (literals "a" ++ RecursiveSuffix ∷ [])))  -- letter then suffix
    ∷ (reading DEFAULT (codes "a/**/**"), Ok (tokens (literals "a" ++ RecursiveSuffix ∷ [])))  -- suffix of a pair and run
    ∷ (reading DEFAULT (codes "/**/"), Ok (tokens (RecursiveZeroOrMore ∷ [])))  -- middle
    ∷ (reading DEFAULT (codes "a/**/"), Ok (tokens (literals "a" ++ RecursiveZeroOrMore ∷ [])))  -- letter then middle
    ∷ (reading DEFAULT (codes "a/**/b"), Ok (tokens (literals "a" ++ RecursiveZeroOrMore ∷ literals "b")))  -- middle between letters
    ∷ (reading DEFAULT (codes "a/**/**/b"), Ok (tokens (literals "a" ++ RecursiveZeroOrMore ∷ literals "b")))  -- middle of two pairs
    ∷ (reading DEFAULT (codes "/**//**"), Ok (tokens (RecursiveZeroOrMore ∷ RecursiveSuffix ∷ [])))  -- middle then suffix
    ∷ (reading DEFAULT (codes "a/**,b"), Ok (tokens (literals "a/" ++ ZeroOrMore ∷ ZeroOrMore ∷ literals ",b")))  -- run before comma outside groups
    ∷ (reading DEFAULT (codes "\\**"), Ok (tokens (literals "*" ++ ZeroOrMore ∷ [])))  -- escaped star then star
    ∷ (reading DEFAULT (codes "\\***"), Ok (tokens (literals "*" ++ ZeroOrMore ∷ ZeroOrMore ∷ [])))  -- escaped star then run
    ∷ (reading DEFAULT (codes "**\\*"), Ok (tokens (ZeroOrMore ∷ ZeroOrMore ∷ literals "*")))  -- run then escaped star
    ∷ (reading DEFAULT (codes "**/.."), Ok (tokens (RecursivePrefix ∷ literals "..")))  -- prefix then dots
    ∷ (reading DEFAULT (codes "**/\\.."), Ok (tokens (RecursivePrefix ∷ literals "..")))  -- prefix then escaped dot
    ∷ (reading DEFAULT (codes "{**}"), Ok (tokens (group ((ZeroOrMore ∷ ZeroOrMore ∷ []) ∷ []) ∷ [])))  -- run as a whole branch
    ∷ (reading DEFAULT (codes "{**/}"), Ok (tokens (group ((RecursivePrefix ∷ []) ∷ []) ∷ [])))  -- prefix as a whole branch
    ∷ (reading DEFAULT (codes "{**/**}"), Ok (tokens (group ((RecursivePrefix ∷ []) ∷ []) ∷ [])))  -- prefix and last run as a whole branch
    ∷ (reading DEFAULT (codes "{a/**,b}"), Ok (tokens (group ((literals "a" ++ RecursiveSuffix ∷ []) ∷ literals "b" ∷ []) ∷ [])))  -- suffix at the end of a branch
    ∷ (reading DEFAULT (codes "{**/src/**,foo}"), Ok (tokens (group ((RecursivePrefix ∷ literals "src" ++ RecursiveSuffix ∷ []) ∷ literals "foo" ∷ []) ∷ [])))  -- prefix and suffix in a branch
    ∷ (reading DEFAULT (codes "/**/{**/a}"), Ok (tokens (RecursiveZeroOrMore ∷ group ((RecursivePrefix ∷ literals "a") ∷ []) ∷ [])))  -- prefix at the start of a branch
    ∷ (reading DEFAULT (codes "{a\\,**}"), Ok (tokens (group ((literals "a," ++ ZeroOrMore ∷ ZeroOrMore ∷ []) ∷ []) ∷ [])))  -- escaped comma then run
    ∷ (reading DEFAULT (codes "{a\\,**/b}"), Ok (tokens (group ((literals "a," ++ ZeroOrMore ∷ ZeroOrMore ∷ literals "/b") ∷ []) ∷ [])))  -- escaped comma then run and slash
    ∷ (reading DEFAULT (codes "{\\{**}"), Ok (tokens (group ((literals "{" ++ ZeroOrMore ∷ ZeroOrMore ∷ []) ∷ []) ∷ [])))  -- escaped brace then run
    ∷ [])
unfolding reading_on_literals
reading_rows = refl

-- ---- pieces next to escapes, groups and the ends of branches

pieces_next_to_escapes_groups_and_the_ends_of_branches : AreEqual (
    (reading DEFAULT (codes "/**/**"), Ok (tokens (RecursiveSuffix ∷ [])))  -- suffix of a pair and run alone
    ∷ (reading DEFAULT (codes "**/**/***"), Ok (tokens (RecursivePrefix ∷ ZeroOrMore ∷ ZeroOrMore ∷ ZeroOrMore ∷ [])))  -- prefix of two pairs then three stars
    ∷ (reading DEFAULT (codes "**/\\**"), Ok (tokens (RecursivePrefix ∷ literals "*" ++ ZeroOrMore ∷ [])))  -- prefix then escaped star and star
    ∷ (reading DEFAULT (codes "**\\/"), Ok (tokens (ZeroOrMore ∷ ZeroOrMore ∷ literals "/")))  -- no prefix by escaped slash
    ∷ (reading DEFAULT (codes "\\/**/"), Ok (tokens (RecursiveZeroOrMore ∷ [])))  -- middle from escaped slash
    ∷ (reading DEFAULT (codes "**/a/**/b/**"), Ok (tokens (RecursivePrefix ∷ literals "a" ++ RecursiveZeroOrMore ∷ literals "b" ++ RecursiveSuffix ∷ [])))  -- prefix middle and suffix
    ∷ (reading DEFAULT (codes "a**/b"), Ok (tokens (literals "a" ++ ZeroOrMore ∷ ZeroOrMore ∷ literals "/b")))  -- run and slash past the start
    ∷ (reading DEFAULT (codes "/**\\*"), Ok (tokens (literals "/" ++ ZeroOrMore ∷ ZeroOrMore ∷ literals "*")))  -- slash run and star escaped
    ∷ (reading DEFAULT (codes "?/**/?"), Ok (tokens (Any ∷ RecursiveZeroOrMore ∷ Any ∷ [])))  -- any in the way
    ∷ (reading DEFAULT (codes "{**,a}"), Ok (tokens (group ((ZeroOrMore ∷ ZeroOrMore ∷ []) ∷ literals "a" ∷ []) ∷ [])))  -- run at the end of the first branch
    ∷ (reading DEFAULT (codes "{a,**/}"), Ok (tokens (group (literals "a" ∷ (RecursivePrefix ∷ []) ∷ []) ∷ [])))  -- prefix in the last branch
    ∷ (reading DEFAULT (codes "{/**,b}"), Ok (tokens (group ((RecursiveSuffix ∷ []) ∷ literals "b" ∷ []) ∷ [])))  -- suffix in the first branch
    ∷ (reading DEFAULT (codes "a{b/**}c"), Ok (tokens (literals "a" ++ group ((literals "b" ++ RecursiveSuffix ∷ []) ∷ []) ∷ literals "c")))  -- suffix before the end of a group
    ∷ (reading DEFAULT (codes "{a}/**"), Ok (tokens (group (literals "a" ∷ []) ∷ RecursiveSuffix ∷ [])))  -- suffix after a group
    ∷ (reading DEFAULT (codes "a/**{b}"), Ok (tokens (literals "a/" ++ ZeroOrMore ∷ ZeroOrMore ∷ group (literals "b" ∷ []) ∷ [])))  -- no suffix before a group
    ∷ (reading DEFAULT (codes "**{a}"), Ok (tokens (ZeroOrMore ∷ ZeroOrMore ∷ group (literals "a" ∷ []) ∷ [])))  -- run then group
    ∷ (reading DEFAULT (codes "**/{a}"), Ok (tokens (RecursivePrefix ∷ group (literals "a" ∷ []) ∷ [])))  -- prefix then group
    ∷ (reading DEFAULT (codes "{a}**/b"), Ok (tokens (group (literals "a" ∷ []) ∷ ZeroOrMore ∷ ZeroOrMore ∷ literals "/b")))  -- no prefix after a group
    ∷ (reading DEFAULT (codes "{a,{**/b,/**}}"), Ok (tokens (group (literals "a" ∷ (group ((RecursivePrefix ∷ literals "b") ∷ (RecursiveSuffix ∷ []) ∷ []) ∷ []) ∷ []) ∷ [])))  -- prefix in an inner group
    ∷ (reading DEFAULT (codes "{,}"), Ok (tokens (group ([] ∷ [] ∷ []) ∷ [])))  -- empty branches
    ∷ [])
unfolding reading_on_literals
pieces_next_to_escapes_groups_and_the_ends_of_branches = refl
