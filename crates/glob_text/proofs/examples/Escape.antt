-- Examples of escaping, and of the paths that an escaped text with a backslash matches. Each row computes.
use Rattle.std.specs.Prelude.{ℕ, List, [], ◌∷◌, refl}
use Prim.Native.String.{String}
use Rattle.glob_syntax.specs.declared.options.TheConstants.Options.{DEFAULT}
use Rattle.glob_text.specs.Escape.{escaped}
use Rattle.glob_text.proofs.examples.Unfoldings.{glob_on_literals}
use Rattle.glob_syntax.proofs.examples.Words.{AreEqual, AreTrue, unescaped}
use Rattle.glob_text.proofs.examples.Words.{utf8, matches_each, matches_none}

-- what escaping the text gives
abbrev escape : String → List ℕ
escape text = escaped (utf8 text)

escape_rows : AreEqual (
    (escape "{a,b}", utf8 "[{]a,b[}]")  -- braces
    ∷ (escape "src/**/*.rs", utf8 "src/[*][*]/[*].rs")  -- stars
    ∷ (escape "bar[!!]!baz", utf8 "bar[[]!![]]!baz")  -- classes and exclamation marks
    ∷ (escape "[]", utf8 "[[][]]")  -- brackets
    ∷ (escape "*?", utf8 "[*][?]")  -- star and question mark
    ∷ (escape "bar[ab]baz", utf8 "bar[[]ab[]]baz")  -- class
    ∷ (escape "", utf8 "")  -- nothing
    ∷ (escape "a\\b", utf8 "a\\b")  -- backslash
    ∷ (escape "a\\*", utf8 "a\\[*]")  -- backslash before star
    ∷ (escape "é*", utf8 "é[*]")  -- two bytes
    ∷ [])
unfolding glob_on_literals
escape_rows = refl

matches : AreTrue (
    -- Under the default options the backslash of `a\[*]` escapes the bracket, so the text that was escaped is not matched.
    matches_each DEFAULT "a\\[*]" ("a[*]" ∷ [])  -- escapes a bracket
    ∷ matches_none DEFAULT "a\\[*]" ("a\\*" ∷ [])
    -- With `backslash_escape` off it is matched.
    ∷ matches_each unescaped "a\\[*]" ("a\\*" ∷ [])  -- plain backslash
    ∷ matches_none unescaped "a\\[*]" ("a[*]" ∷ "a*" ∷ [])
    ∷ [])
unfolding glob_on_literals
matches = refl
