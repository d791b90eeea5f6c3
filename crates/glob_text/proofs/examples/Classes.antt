-- Examples of classes: the paths that a glob matches, and paths that it does not. Each row computes.
use Rattle.std.specs.Prelude.{[], ◌∷◌, refl}
use Rattle.glob_syntax.specs.declared.options.TheConstants.Options.{DEFAULT}
use Rattle.glob_text.proofs.examples.Unfoldings.{glob_on_literals}
use Rattle.glob_text.proofs.examples.Words.{matches_bytes, matches_no_bytes, matches_each, matches_none}
use Rattle.glob_syntax.proofs.examples.Words.{AreTrue}

matches : AreTrue (
    matches_each DEFAULT "a*b[xyz]c*d" ("abxcdbxcddd" ∷ [])  -- class between stars
    ∷ matches_each DEFAULT "a[0-9]b" ("a0b" ∷ "a9b" ∷ [])  -- digits
    ∷ matches_none DEFAULT "a[0-9]b" ("a_b" ∷ [])
    ∷ matches_each DEFAULT "a[^0-9]b" ("a_b" ∷ [])  -- digits negated
    ∷ matches_none DEFAULT "a[^0-9]b" ("a0b" ∷ "a9b" ∷ [])
    ∷ matches_each DEFAULT "[1a-z23]" ("1" ∷ [])  -- members and range
    ∷ matches_each DEFAULT "[abc-]" ("-" ∷ [])  -- last hyphen
    ∷ matches_none DEFAULT "[!-]" ("-" ∷ [])  -- hyphen negated
    ∷ matches_each DEFAULT "_[[]_[]]_[?]_[*]_!_" ("_[_]_?_*_!_" ∷ [])  -- special characters in classes
    ∷ matches_each DEFAULT "\\[" ("[" ∷ [])  -- bracket escaped
    ∷ matches_each DEFAULT "[a-c-e]" ("d" ∷ "e" ∷ [])  -- chain goes on
    ∷ matches_none DEFAULT "[a-c-e]" ("-" ∷ [])
    ∷ matches_each DEFAULT "[a-c-b]" ("b" ∷ [])  -- chain turns back
    ∷ matches_none DEFAULT "[a-c-b]" ("c" ∷ [])
    ∷ matches_bytes DEFAULT "[é]" (0xC3 ∷ [])  -- first byte of a character
    ∷ matches_bytes DEFAULT "[é-ü]" (0xB0 ∷ [])  -- byte inside a range
    ∷ matches_bytes DEFAULT "[é-ü]" (0xC3 ∷ [])  -- byte at the end of a range
    ∷ matches_no_bytes DEFAULT "[é-ü]" (0xA8 ∷ [])  -- byte before a range
    ∷ matches_each DEFAULT "[a\\]" ("\\" ∷ "a" ∷ [])  -- backslash as member
    ∷ matches_none DEFAULT "[a\\]" ("]" ∷ [])
    ∷ [])
unfolding glob_on_literals
matches = refl
