-- Examples of where the first error of a text stands, in bytes. Each example is computed.
use Rattle.std.specs.Prelude.{[], ◌∷◌, Some, None, codes, refl}
use Rattle.glob_syntax.specs.declared.options.TheConstants.Options.{DEFAULT}
use Rattle.glob_syntax.specs.ErrorOffset.{lexemes_from, error_from, error_offset}
use Rattle.glob_syntax.proofs.examples.Unfoldings.{reading_on_literals}
use Rattle.glob_syntax.proofs.examples.Words.{AreEqual, unclosed, unescaped}

unfoldable offset_on_literals : Unit {0}
unfolding reading_on_literals lexemes_from error_from error_offset
offset_on_literals = tt

error_offset_rows : AreEqual (
    (error_offset DEFAULT (codes "{a,b}"), None)  -- no error
    ∷ (error_offset DEFAULT (codes "a[b"), Some 1)  -- open class
    ∷ (error_offset DEFAULT (codes "[[]é[!b"), Some 5)  -- second class
    ∷ (error_offset DEFAULT (codes "ab[c-dz-a]"), Some 2)  -- range downwards
    ∷ (error_offset DEFAULT (codes "{a}}b"), Some 3)  -- close brace
    ∷ (error_offset DEFAULT (codes "[}]}"), Some 3)  -- close brace in a class
    ∷ (error_offset DEFAULT (codes "é\\\\\\"), Some 4)  -- backslash
    ∷ (error_offset DEFAULT (codes "{a}€{b,{c"), Some 6)  -- outermost open brace
    ∷ (error_offset DEFAULT (codes "x{a,{b}"), Some 1)  -- innermost closed
    ∷ (error_offset DEFAULT (codes "\\{{"), Some 2)  -- open brace escaped
    ∷ (error_offset unescaped (codes "\\{{"), Some 1)  -- open brace after a plain backslash
    ∷ (error_offset unclosed (codes "[{"), Some 1)  -- plain bracket
    ∷ (error_offset unclosed (codes "[[z-a]"), Some 0)  -- closed class after a bracket
    ∷ [])
unfolding offset_on_literals
error_offset_rows = refl
