-- A law of the output.
use Rattle.std.specs.Prelude.{◌≡◌, ℕ, List, [], ◌∷◌, ◌++◌, Bool}
use Rattle.globset.specs.GlobMatches.{GlobValue}
use Rattle.globsift.specs.Output.{sifted}

-- An input that is cut after an LF (10): the output for the first part, and after it that for the second, is the output for
-- the whole. The parts may have any number of lines.
abbrev pub PartsOfInput : Type 0
PartsOfInput = (globs : List GlobValue) (numbered : Bool) (before after : List ℕ)
    → sifted globs numbered ((before ++ 10 ∷ []) ++ after) ≡ sifted globs numbered (before ++ 10 ∷ []) ++ sifted globs numbered after
