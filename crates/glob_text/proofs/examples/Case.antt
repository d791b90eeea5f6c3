-- Examples of `case_insensitive`: the paths that a glob matches, and paths that it does not. Each row computes.
use Rattle.std.specs.Prelude.{[], ◌∷◌, refl}
use Rattle.glob_syntax.specs.declared.options.TheConstants.Options.{DEFAULT}
use Rattle.glob_text.proofs.examples.Unfoldings.{glob_on_literals}
use Rattle.glob_syntax.proofs.examples.Words.{AreTrue, insensitive}
use Rattle.glob_text.proofs.examples.Words.{matches_each, matches_none}

matches : AreTrue (
    matches_each insensitive "aBcDeFg" ("abcdefg" ∷ "AbCdEfG" ∷ [])  -- letters insensitive
    ∷ matches_each insensitive "aBcDeFg" ("ABCDEFG" ∷ [])  -- letters in capitals
    ∷ matches_each DEFAULT "aBcDeFg" ("aBcDeFg" ∷ [])  -- case told apart
    ∷ matches_none DEFAULT "aBcDeFg" ("ABCDEFG" ∷ [])
    ∷ matches_each insensitive "[!a]" ("b" ∷ [])  -- negated after folding
    ∷ matches_none insensitive "[!a]" ("A" ∷ "a" ∷ [])
    ∷ matches_each insensitive "é" ("é" ∷ [])  -- no folding past ascii
    ∷ matches_none insensitive "é" ("É" ∷ [])
    ∷ matches_each insensitive "c*" ("c/main.rs" ∷ "C/main.c" ∷ "Ca" ∷ [])  -- letter then star insensitive
    ∷ matches_none insensitive "c*" ("foo.c" ∷ [])
    ∷ matches_each insensitive "*{rs,C}" ("MAIN.c" ∷ "A.Rs" ∷ [])  -- branches insensitive
    ∷ matches_none insensitive "*{rs,C}" ("Ca" ∷ [])
    ∷ [])
unfolding glob_on_literals
matches = refl
