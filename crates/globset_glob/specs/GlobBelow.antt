-- Whether a glob matches some path below a folder.
use Rattle.std.specs.Prelude.{ℕ, List, IsTrue}
use Rattle.bit_sets.specs.Texts.{AllBytes}
use Rattle.glob_path.specs.Below.{path_below}
use Rattle.glob_text.specs.GlobMatches.{GlobValue, glob_matches}

-- the glob matches some path below the folder: the folder, a `/`, and any bytes, perhaps none
abbrev pub GlobMatchesBelow : GlobValue → List ℕ → Type 0
GlobMatchesBelow g folder = (rest : List ℕ) × AllBytes rest × IsTrue (glob_matches g (path_below folder rest))
