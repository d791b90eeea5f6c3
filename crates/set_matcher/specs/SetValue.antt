-- Sets as contracts see them: a list of globs, and a number.
use Rattle.std.specs.Prelude.{ℕ, List}
use Rattle.glob_text.specs.GlobMatches.{GlobValue}

-- A set is seen as the list of its globs, each a text and options, and a number: the states of its largest automaton. The first
-- glob has index 0.
pub record SetValue : Type 0 where
  pub globs : List GlobValue
  pub states : ℕ

-- the globs of a set, in order
abbrev pub set_globs : SetValue → List GlobValue
set_globs s = s.globs

-- the states of the largest automaton of a set
abbrev pub set_states : SetValue → ℕ
set_states s = s.states
