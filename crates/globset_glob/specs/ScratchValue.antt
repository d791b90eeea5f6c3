-- Scratches as contracts see them: as two numbers.
use Rattle.std.specs.Prelude.{ℕ, ◌≤◌, max}
use Rattle.glob_text.specs.Cost.{cost}
use Rattle.glob_text.specs.GlobMatches.{GlobValue}

-- A scratch is seen as two numbers: of the states that an automaton may have, and of the globs that a set may have.
pub record ScratchValue : Type 0 where
  pub states : ℕ
  pub indexes : ℕ

-- the scratch has room for automata of this number of states and for this number of globs: neither of its numbers is lower
pub record HasCapacity (scratch : ScratchValue) (states indexes : ℕ) : Type 0 where
  pub for_states : states ≤ scratch.states
  pub for_indexes : indexes ≤ scratch.indexes

-- The scratch fits a matcher of the glob: its number of states is not below the largest possible number of the matcher's
-- automaton. That is 4 for each byte of the glob's text, or 16 under `whole_character`, and 4. Indexes are not needed.
abbrev pub FitsMatcher : ScratchValue → GlobValue → Type 0
FitsMatcher scratch g = HasCapacity scratch (cost g) 0

-- the scratch with each of its numbers raised to the given number, if it is lower
abbrev pub raised : ScratchValue → ℕ → ℕ → ScratchValue
raised scratch states indexes = record { states = max scratch.states states; indexes = max scratch.indexes indexes }

-- the new scratch has at least the room of the old scratch, so it fits each set and each matcher that the old scratch fits
abbrev pub FitsAsBefore : ScratchValue → ScratchValue → Type 0
FitsAsBefore old new = (states indexes : ℕ) → HasCapacity old states indexes → HasCapacity new states indexes
