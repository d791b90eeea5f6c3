-- Examples of groups: the paths that a glob matches, and paths that it does not. Each row computes.
use Rattle.std.specs.Prelude.{[], ◌∷◌, refl}
use Rattle.glob_syntax.specs.declared.options.TheConstants.Options.{DEFAULT}
use Rattle.glob_text.proofs.examples.Unfoldings.{glob_on_literals}
use Rattle.glob_syntax.proofs.examples.Words.{AreTrue, blank_kept}
use Rattle.glob_text.proofs.examples.Words.{matches_each, matches_none}

matches : AreTrue (
    matches_each DEFAULT "{**/src/**,foo}" ("abc/src/bar" ∷ "foo" ∷ [])  -- paths in branches
    ∷ matches_each DEFAULT "{[}],foo}" ("}" ∷ [])  -- class with a brace
    ∷ matches_each DEFAULT "{}" ("" ∷ [])  -- blank group
    ∷ matches_each DEFAULT "{*.foo,*.bar}" ("test.foo" ∷ "test.bar" ∷ [])  -- stars in branches
    ∷ matches_each DEFAULT "{a,b{c,d}}" ("a" ∷ "bc" ∷ "bd" ∷ [])  -- group in a group
    ∷ matches_each DEFAULT "{a\\,**}" ("a,b" ∷ [])  -- escaped comma then run
    ∷ matches_none DEFAULT "{a\\,**}" ("a/b" ∷ [])
    ∷ matches_each DEFAULT "foo{,.txt}" ("foo.txt" ∷ [])  -- blank branch dropped
    ∷ matches_none DEFAULT "foo{,.txt}" ("foo" ∷ [])
    ∷ matches_each blank_kept "foo{,.txt}" ("foo" ∷ "foo.txt" ∷ [])  -- blank branch kept
    ∷ matches_each DEFAULT "{,}" ("" ∷ [])  -- blank branches alone
    ∷ matches_none DEFAULT "{,}" ("a" ∷ [])
    ∷ matches_each DEFAULT "{{},a}" ("a" ∷ [])  -- blank group in a branch
    ∷ matches_none DEFAULT "{{},a}" ("" ∷ [])
    ∷ matches_each blank_kept "{{},a}" ("a" ∷ "" ∷ [])  -- blank group in a kept branch
    ∷ matches_each DEFAULT "{a}{,b}" ("ab" ∷ [])  -- blank branch after a group
    ∷ matches_none DEFAULT "{a}{,b}" ("a" ∷ [])
    ∷ matches_each blank_kept "{a}{,b}" ("ab" ∷ "a" ∷ [])  -- kept branch after a group
    ∷ matches_none blank_kept "{a}{,b}" ("b" ∷ [])
    ∷ matches_each DEFAULT "*{rs,c}" ("c/main.rs" ∷ "C/main.c" ∷ "foo.c" ∷ [])  -- star then branches
    ∷ matches_none DEFAULT "*{rs,c}" ("Ca" ∷ [])
    ∷ matches_each DEFAULT "{**/}" ("" ∷ "a/" ∷ [])  -- prefix alone in a group
    ∷ matches_none DEFAULT "{**/}" ("a" ∷ [])
    ∷ matches_each DEFAULT "{**}" ("a/b" ∷ "a" ∷ "" ∷ [])  -- run as a branch
    ∷ [])
unfolding glob_on_literals
matches = refl
