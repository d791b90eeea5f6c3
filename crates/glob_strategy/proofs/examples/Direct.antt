-- Examples of globs that are direct, and of paths for which a glob needs an automaton. Each row computes.
use Rattle.std.specs.Prelude.{[], ◌∷◌, true, false, Some, refl}
use Rattle.glob_strategy.proofs.examples.Words.{globs_on_literals, glob, insensitive, separated, directness, need}
use Rattle.glob_syntax.proofs.examples.Words.{AreEqual}

-- ---- direct

direct : AreEqual (
    (directness (glob "a/b"), Some true)  -- literals
    ∷ (directness (glob "**/a/b"), Some true)  -- literals after prefix
    ∷ (directness (glob "*a/b"), Some true)  -- star and literals
    ∷ (directness (glob "*"), Some true)  -- star alone
    ∷ (directness (glob "**/*a"), Some true)  -- star and literals after prefix
    ∷ (directness (glob "a/b*"), Some true)  -- literals and star
    ∷ (directness (glob "a/b/**"), Some true)  -- literals and suffix
    ∷ (directness (separated "a/b/**"), Some true)  -- literals and suffix separated
    ∷ (directness (glob "**"), Some true)  -- prefix alone
    ∷ (directness (separated "**/*.a"), Some true)  -- extension after prefix separated
    ∷ (directness (glob "**/.."), Some true)  -- excluded
    ∷ (directness (glob "a*b"), Some false)  -- star inside
    ∷ (directness (separated "*.a"), Some false)  -- star and literals separated
    ∷ (directness (separated "**/*.a.b"), Some false)  -- two dots after prefix separated
    ∷ (directness (separated "a*"), Some false)  -- literals and star separated
    ∷ (directness (glob "a?"), Some false)  -- any
    ∷ (directness (glob "[a]"), Some false)  -- class
    ∷ (directness (glob "{a}"), Some false)  -- literals in group
    ∷ (directness (glob "a/*.rs"), Some false)  -- star after component
    ∷ (directness (glob "**/a/**"), Some false)  -- suffix after prefix
    ∷ (directness (glob ""), Some false)  -- no tokens
    ∷ (directness (insensitive "a"), Some false)  -- literals insensitive
    ∷ [])
unfolding globs_on_literals
direct = refl

-- ---- paths for which a glob needs an automaton

paths_for_which_a_glob_needs_an_automaton : AreEqual (
    (need (glob "a/*.rs") "a/b.rs", Some true)  -- need extension that fits
    ∷ (need (glob "a/*.rs") "b.rs", Some true)  -- need extension of another path
    ∷ (need (glob "a/*.rs") "a/b.c", Some false)  -- need extension that differs
    ∷ (need (glob "a/*.rs") "a/.rs", Some true)  -- need extension without a name
    ∷ (need (glob "a/*.rs") "a/b.rs.c", Some false)  -- need extension and more
    ∷ (need (glob "a/*.rs") "", Some false)  -- need no extension
    ∷ (need (glob "a*b") "c", Some true)  -- need no ending
    ∷ (need (insensitive "a/*.rs") "a/b.c", Some true)  -- need ending insensitive
    ∷ (need (insensitive "a") "b", Some true)  -- need literals insensitive
    ∷ (need (glob "a") "a", Some false)  -- need literals
    ∷ (need (glob "**/..") "..", Some false)  -- need excluded
    ∷ [])
unfolding globs_on_literals
paths_for_which_a_glob_needs_an_automaton = refl
