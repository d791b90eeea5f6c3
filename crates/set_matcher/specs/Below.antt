-- Whether a set matches some path below a folder.
use Rattle.std.specs.Prelude.{◌≢◌, ℕ, List, []}
use Rattle.glob_text.specs.GlobMatches.{GlobValue}
use Rattle.bit_sets.specs.Texts.{AllBytes}
use Rattle.glob_path.specs.Below.{path_below}
use Rattle.set_matcher.specs.Answer.{matching_indexes}

-- some glob of the list that is not excluded matches some path below the folder: the folder, a `/`, and any bytes, perhaps none
abbrev pub MatchesBelow : List GlobValue → List ℕ → Type 0
MatchesBelow globs folder = (rest : List ℕ) × AllBytes rest × (matching_indexes globs (path_below folder rest) ≢ [])
