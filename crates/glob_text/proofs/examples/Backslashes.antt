-- Examples of `\`, with and without `backslash_escape`: the paths that a glob matches, and paths that it does not. Each row
-- computes.
use Rattle.std.specs.Prelude.{[], ◌∷◌, refl}
use Rattle.glob_syntax.specs.declared.options.TheConstants.Options.{DEFAULT}
use Rattle.glob_text.proofs.examples.Unfoldings.{glob_on_literals}
use Rattle.glob_syntax.proofs.examples.Words.{AreTrue, unescaped}
use Rattle.glob_text.proofs.examples.Words.{matches_each, matches_none}

matches : AreTrue (
    matches_each DEFAULT "\\a" ("a" ∷ [])  -- letter escaped
    ∷ matches_each unescaped "\\[a-z]" ("\\a" ∷ [])  -- plain backslash then class
    ∷ matches_each unescaped "\\*" ("\\\\" ∷ [])  -- plain backslash then star
    ∷ matches_each DEFAULT "foo\\*bar" ("foo*bar" ∷ [])  -- escaped star
    ∷ matches_none DEFAULT "foo\\*bar" ("é.py" ∷ "foo-bar" ∷ [])
    ∷ [])
unfolding glob_on_literals
matches = refl
