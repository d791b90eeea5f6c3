-- Sets of states.
use Rattle.std.specs.Prelude.{ℕ, ◌*◌, Bool, length}
use Rattle.bit_sets.specs.Bits.{bit_of}
use Rattle.bit_sets.specs.declared.state_set.StateSet.{StateSet}

-- the set has the state s
abbrev pub has_state : StateSet → ℕ → Bool
has_state set s = bit_of set.words.items s

-- a set has room for the states below this
abbrev pub state_capacity : StateSet → ℕ
state_capacity set = 64 * length set.words.items
