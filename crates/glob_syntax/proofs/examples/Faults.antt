-- Examples of the first error of a text, and of texts that are read under an option and are errors under the default ones.
-- Each example is computed.
use Rattle.std.specs.Prelude.{[], ◌∷◌, ◌++◌, false, Ok, Err, codes, refl}
use Rattle.glob_syntax.specs.declared.parse_error_kind.ParseErrorKind.TheVariants.{UnclosedClass, InvalidRange, UnopenedAlternates, UnclosedAlternates, DanglingEscape}
use Rattle.glob_syntax.specs.declared.options.TheConstants.Options.{DEFAULT}
use Rattle.glob_syntax.specs.Token.{Any, ZeroOrMore, Class}
use Rattle.glob_syntax.specs.Reading.{reading}
use Rattle.glob_syntax.proofs.examples.Unfoldings.{reading_on_literals}
use Rattle.glob_syntax.proofs.examples.Words.{AreEqual, unclosed, unescaped, char_of, tokens, literals, group, spans}

reading_rows : AreEqual (
    (reading DEFAULT (codes "["), Err UnclosedClass)  -- open bracket alone
    ∷ (reading DEFAULT (codes "[]"), Err UnclosedClass)  -- bracket is a member
    ∷ (reading DEFAULT (codes "[!"), Err UnclosedClass)  -- negation alone
    ∷ (reading DEFAULT (codes "[!]"), Err UnclosedClass)  -- bracket is a negated member
    ∷ (reading DEFAULT (codes "[a-"), Err UnclosedClass)  -- hyphen at the end
    ∷ (reading DEFAULT (codes "[z-a]"), Err (InvalidRange (char_of "z") (char_of "a")))  -- range downwards
    ∷ (reading DEFAULT (codes "[z--]"), Err (InvalidRange (char_of "z") (char_of "-")))  -- range down to hyphen
    ∷ (reading DEFAULT (codes "[a--]"), Err (InvalidRange (char_of "a") (char_of "-")))  -- bad range before last hyphen
    ∷ (reading DEFAULT (codes "[c-e-b]"), Err (InvalidRange (char_of "c") (char_of "b")))  -- bad second pair
    ∷ (reading DEFAULT (codes "[b-a"), Err (InvalidRange (char_of "b") (char_of "a")))  -- bad range before missing bracket
    ∷ (reading unclosed (codes "[b-a"), Ok (tokens (literals "[b-a")))  -- bad range in plain text
    ∷ (reading unclosed (codes "[b-a]"), Err (InvalidRange (char_of "b") (char_of "a")))  -- bad range in closed class
    ∷ (reading DEFAULT (codes "{"), Err UnclosedAlternates)  -- open brace alone
    ∷ (reading DEFAULT (codes "{a,b"), Err UnclosedAlternates)  -- group of two open
    ∷ (reading DEFAULT (codes "{a,{b,c}"), Err UnclosedAlternates)  -- outer group open
    ∷ (reading DEFAULT (codes "}"), Err UnopenedAlternates)  -- close brace alone
    ∷ (reading DEFAULT (codes "a,b}"), Err UnopenedAlternates)  -- close brace after comma
    ∷ (reading DEFAULT (codes "{a,b}}"), Err UnopenedAlternates)  -- one close brace too many
    ∷ (reading DEFAULT (codes "{}}"), Err UnopenedAlternates)  -- one close brace too many after an empty group
    ∷ (reading DEFAULT (codes "}[z-a]"), Err UnopenedAlternates)  -- close brace before bad range
    ∷ (reading DEFAULT (codes "[z-a]}"), Err (InvalidRange (char_of "z") (char_of "a")))  -- bad range before close brace
    ∷ (reading DEFAULT (codes "\\"), Err DanglingEscape)  -- backslash alone
    ∷ (reading DEFAULT (codes "a\\"), Err DanglingEscape)  -- backslash at the end
    ∷ (reading DEFAULT (codes "{a\\"), Err DanglingEscape)  -- backslash at the end of a group
    ∷ (reading unescaped (codes "\\"), Ok (tokens (literals "\\")))  -- backslash alone as plain
    ∷ (reading DEFAULT (codes "[a\\"), Err UnclosedClass)  -- backslash in an open class
    ∷ (reading DEFAULT (codes "{["), Err UnclosedClass)  -- open class in an open group
    ∷ (reading unclosed (codes "{["), Err UnclosedAlternates)  -- bracket as plain in an open group
    ∷ [])
unfolding reading_on_literals
reading_rows = refl

-- ---- which error comes first

which_error_comes_first : AreEqual (
    (reading DEFAULT (codes "[!b-a"), Err (InvalidRange (char_of "b") (char_of "a")))  -- bad range past negation
    ∷ (reading DEFAULT (codes "[]b-a"), Err (InvalidRange (char_of "b") (char_of "a")))  -- bad range past first bracket
    ∷ (reading DEFAULT (codes "[}b-a"), Err (InvalidRange (char_of "b") (char_of "a")))  -- bad range past braces
    ∷ (reading DEFAULT (codes "[a-b][d-c]"), Err (InvalidRange (char_of "d") (char_of "c")))  -- second class bad
    ∷ (reading DEFAULT (codes "[d-cb-a]"), Err (InvalidRange (char_of "d") (char_of "c")))  -- first bad range of two
    ∷ (reading DEFAULT (codes "[ü-é]"), Err (InvalidRange (char_of "ü") (char_of "é")))  -- bad range past ascii
    ∷ (reading DEFAULT (codes "[}"), Err UnclosedClass)  -- open class before close brace
    ∷ (reading DEFAULT (codes "}["), Err UnopenedAlternates)  -- close brace before open class
    ∷ (reading DEFAULT (codes "{[b-a]"), Err (InvalidRange (char_of "b") (char_of "a")))  -- bad range in an open group
    ∷ (reading DEFAULT (codes "}\\"), Err UnopenedAlternates)  -- backslash after a close brace
    ∷ (reading unclosed (codes "[}"), Err UnopenedAlternates)  -- close brace in an open class as plain
    ∷ (reading unclosed (codes "[a\\"), Err DanglingEscape)  -- backslash in an open class as plain
    ∷ [])
unfolding reading_on_literals
which_error_comes_first = refl

-- ---- plain brackets, backslashes and braces

plain_brackets_backslashes_and_braces : AreEqual (
    (reading unclosed (codes "["), Ok (tokens (literals "[")))  -- plain bracket
    ∷ (reading unclosed (codes "[abc"), Ok (tokens (literals "[abc")))  -- plain bracket and letters
    ∷ (reading unclosed (codes "[]"), Ok (tokens (literals "[]")))  -- plain brackets
    ∷ (reading unclosed (codes "[]["), Ok (tokens (literals "[][")))  -- two plain brackets
    ∷ (reading unclosed (codes "[!"), Ok (tokens (literals "[!")))  -- plain bracket and bang
    ∷ (reading unclosed (codes "[!]"), Ok (tokens (literals "[!]")))  -- plain brackets about bang
    ∷ (reading unclosed (codes "{[abc,[xyz}"), Ok (tokens (group (literals "[abc" ∷ literals "[xyz" ∷ []) ∷ [])))  -- plain bracket in each branch
    ∷ (reading unclosed (codes "{[abc,xyz}"), Ok (tokens (group (literals "[abc" ∷ literals "xyz" ∷ []) ∷ [])))  -- plain bracket in one branch
    ∷ (reading unclosed (codes "{[abc],[xyz}"), Ok (tokens (group ((Class false (spans "aabbcc") ∷ []) ∷ (literals "[xyz") ∷ []) ∷ [])))  -- class and plain bracket
    ∷ (reading unclosed (codes "[z-a*?"), Ok (tokens (literals "[z-a" ++ ZeroOrMore ∷ Any ∷ [])))  -- plain bracket then special
    ∷ (reading DEFAULT (codes "[z-a"), Err (InvalidRange (char_of "z") (char_of "a")))  -- range downwards without bracket
    ∷ (reading unclosed (codes "[z-a"), Ok (tokens (literals "[z-a")))  -- plain bracket then hyphen
    ∷ (reading unescaped (codes "a\\b"), Ok (tokens (literals "a\\b")))  -- backslash between letters as plain
    ∷ (reading unescaped (codes "\\*"), Ok (tokens (literals "\\" ++ ZeroOrMore ∷ [])))  -- plain backslash then star
    ∷ (reading DEFAULT (codes "\\?\\*\\[\\]\\{\\}\\,\\\\"), Ok (tokens (literals "?*[]{},\\")))  -- escaped special characters
    ∷ (reading DEFAULT (codes "a,{b,c},d"), Ok (tokens (literals "a," ++ group (literals "b" ∷ literals "c" ∷ []) ∷ literals ",d")))  -- commas outside and inside
    ∷ (reading DEFAULT (codes "{{a,b},{c,d}}"), Ok (tokens (group ((group (literals "a" ∷ literals "b" ∷ []) ∷ []) ∷ (group (literals "c" ∷ literals "d" ∷ []) ∷ []) ∷ []) ∷ [])))  -- groups in groups
    ∷ (reading DEFAULT (codes "{[}],foo}"), Ok (tokens (group ((Class false (spans "}}") ∷ []) ∷ literals "foo" ∷ []) ∷ [])))  -- class with a brace
    ∷ [])
unfolding reading_on_literals
plain_brackets_backslashes_and_braces = refl
