-- Examples of globs that are excluded, and of globs that are not. Each row computes.
use Rattle.std.specs.Prelude.{[], ◌∷◌, true, false, Some, refl}
use Rattle.glob_strategy.proofs.examples.Words.{globs_on_literals, glob, insensitive, excluded}
use Rattle.glob_syntax.proofs.examples.Words.{AreEqual}

excluded_rows : AreEqual (
    (excluded (glob "**/.."), Some true)  -- dots after prefix
    ∷ (excluded (glob "**/**/.."), Some true)  -- dots after two prefixes
    ∷ (excluded (glob "**/\\.."), Some true)  -- escaped dot
    ∷ (excluded (glob "**/[.][.]"), Some false)  -- dots in classes
    ∷ (excluded (insensitive "**/.."), Some false)  -- dots insensitive
    ∷ (excluded (glob "**/a/.."), Some false)  -- letter before dots
    ∷ [])
unfolding globs_on_literals
excluded_rows = refl
