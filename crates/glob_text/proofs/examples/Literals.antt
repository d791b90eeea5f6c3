-- Examples of globs of literals: the paths that each matches, and paths that it does not. Each row computes.
use Rattle.std.specs.Prelude.{[], ◌∷◌, refl}
use Rattle.glob_syntax.specs.declared.options.TheConstants.Options.{DEFAULT}
use Rattle.glob_text.proofs.examples.Unfoldings.{glob_on_literals}
use Rattle.glob_text.proofs.examples.Words.{matches_no_bytes, matches_each, matches_none}
use Rattle.glob_syntax.proofs.examples.Words.{AreTrue}

matches : AreTrue (
    matches_each DEFAULT "a" ("a" ∷ [])  -- letter
    ∷ matches_none DEFAULT "a" ("foo/a" ∷ [])
    ∷ matches_each DEFAULT "a,b" ("a,b" ∷ [])  -- comma outside groups
    ∷ matches_none DEFAULT "./foo" ("foo" ∷ [])  -- dot and slash
    ∷ matches_each DEFAULT "é" ("é" ∷ [])  -- literal past ascii
    ∷ matches_none DEFAULT "é" ("e" ∷ [])
    ∷ matches_no_bytes DEFAULT "é" (0xC3 ∷ [])  -- part of a character
    ∷ matches_each DEFAULT "" ("" ∷ [])  -- empty glob
    ∷ matches_none DEFAULT "" ("a" ∷ "/" ∷ [])
    ∷ matches_each DEFAULT "src/lib.rs" ("src/lib.rs" ∷ [])  -- path of literals
    ∷ matches_none DEFAULT "src/lib.rs" ("src/bar/baz/foo.rs" ∷ [])
    ∷ matches_each DEFAULT "aaaaaaaaaaaaaaaaaaaaaaaaaaaaaaaaaaaaaaaaaaaaaaaaaaaaaaaaaaaaaaaaa" ("aaaaaaaaaaaaaaaaaaaaaaaaaaaaaaaaaaaaaaaaaaaaaaaaaaaaaaaaaaaaaaaaa" ∷ [])  -- literal of 65 letters
    ∷ matches_none DEFAULT "aaaaaaaaaaaaaaaaaaaaaaaaaaaaaaaaaaaaaaaaaaaaaaaaaaaaaaaaaaaaaaaaa" ("a" ∷ "aaaaaaaaaaaaaaaaaaaaaaaaaaaaaaaaaaaaaaaaaaaaaaaaaaaaaaaaaaaaaaaa" ∷ "aaaaaaaaaaaaaaaaaaaaaaaaaaaaaaaaaaaaaaaaaaaaaaaaaaaaaaaaaaaaaaaaaa" ∷ [])
    ∷ matches_each DEFAULT "é.py" ("é.py" ∷ [])  -- name past ascii
    ∷ matches_none DEFAULT "é.py" ("foo*bar" ∷ [])
    ∷ [])
unfolding glob_on_literals
matches = refl
