-- Examples of paths that end in `..`: a glob matches them as it matches other paths. Each row computes.
use Rattle.std.specs.Prelude.{[], ◌∷◌, refl}
use Rattle.glob_syntax.specs.declared.options.TheConstants.Options.{DEFAULT}
use Rattle.glob_text.proofs.examples.Unfoldings.{glob_on_literals}
use Rattle.glob_syntax.proofs.examples.Words.{AreTrue, insensitive, separated}
use Rattle.glob_text.proofs.examples.Words.{matches_each}

matches : AreTrue (
    matches_each DEFAULT "**/.." ("parent/.." ∷ [])  -- prefix then dots
    ∷ matches_each insensitive "**/.." ("parent/.." ∷ [])  -- prefix then dots insensitive
    ∷ matches_each DEFAULT "**/[.][.]" ("parent/.." ∷ ".." ∷ "foo/.." ∷ "foo/bar/.." ∷ [])  -- prefix then dots in classes
    ∷ matches_each DEFAULT "**/a/.." ("x/a/.." ∷ [])  -- letter then dots
    ∷ matches_each separated "**/.*" (".." ∷ "foo/.." ∷ "foo/bar/.." ∷ [])  -- prefix dot and star separated
    ∷ matches_each DEFAULT "*." ("foo/.." ∷ [])  -- star then dot
    ∷ matches_each DEFAULT "foo/?." ("foo/.." ∷ [])  -- any then dot
    ∷ matches_each DEFAULT "?/.." ("a/.." ∷ [])  -- any then dots
    ∷ [])
unfolding glob_on_literals
matches = refl
