-- Which lines are kept.
use Rattle.std.specs.Prelude.{◌≡◌, ◌≢◌, ℕ, List, [], Bool, true, false}
use Rattle.globset.specs.Answer.{matching_indexes}
use Rattle.globset.specs.GlobMatches.{GlobValue}

-- The set of the globs matches the line, and that of the exceptions does not. `matching_indexes` is the indexes of the globs that
-- match, as a set returns them.
abbrev pub IsChosen : List GlobValue → List GlobValue → List ℕ → Type 0
IsChosen globs exceptions line = (matching_indexes globs line ≢ []) × (matching_indexes exceptions line ≡ [])

-- the line is kept: it is chosen, or inverted, it is not chosen
abbrev pub IsKept : List GlobValue → List GlobValue → Bool → List ℕ → Type 0
IsKept globs exceptions false line = IsChosen globs exceptions line
IsKept globs exceptions true line = IsChosen globs exceptions line → ⊥
