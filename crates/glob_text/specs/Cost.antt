-- The bound on the visits of a matcher.
use Rattle.std.specs.Prelude.{ℕ, ◌+◌, ◌*◌, List, length}
use Rattle.glob_syntax.specs.StatesPerByte.{states_per_byte}
use Rattle.glob_text.specs.GlobMatches.{GlobValue}

-- the most visits at a position of a path: 4 for each byte of the glob's text, or 16 under `whole_character`, and 4
abbrev pub cost : GlobValue → ℕ
cost g = states_per_byte g.options * length g.text + 4

-- The most visits for a path. A path of n bytes has n + 1 positions.
abbrev pub max_visits : GlobValue → List ℕ → ℕ
max_visits g path = (length path + 1) * cost g

-- The most visits for a folder. Two positions more than it has bytes are read: its `/`, and what may follow.
abbrev pub max_visits_below : GlobValue → List ℕ → ℕ
max_visits_below g folder = (length folder + 2) * cost g
