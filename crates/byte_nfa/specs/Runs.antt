-- The texts that a set of states accepts.
use Rattle.std.specs.Prelude.{ℕ, ◌+◌, ◌*◌, ◌<◌, ◌↔◌, List, [], ◌∷◌, ◌++◌, length, IsTrue}
use Rattle.bit_sets.specs.Bytes.{has_byte}
use Rattle.bit_sets.specs.Numbers.{has_number}
use Rattle.bit_sets.specs.StateSets.{has_state}
use Rattle.byte_nfa.specs.Steps.{Accepts, NfaValue, IsReached}
use Rattle.bit_sets.specs.declared.byte_set.ByteSet.{ByteSet}
use Rattle.bit_sets.specs.declared.state_set.StateSet.{StateSet}

-- the number of states
abbrev pub size : NfaValue → ℕ
size m = length m.states

-- the most reads of an automaton for each position of a text: its states, and three more for each start. The three are for the
-- look at the text's last byte, for an entry of a row that is read in vain, and for the look-up of a row.
abbrev pub max_reads : NfaValue → ℕ
max_reads m = size m + 3 * length m.starts

-- from some state of the set the text leads to an end of the index k
abbrev pub AcceptsFrom : NfaValue → StateSet → List ℕ → ℕ → Type 0
AcceptsFrom m set y k = (t : ℕ) × (t < size m) × IsTrue (has_state set t) × Accepts m.states k t y

-- the set has exactly the states that lead to some end without a byte
abbrev pub AreAccepting : NfaValue → StateSet → Type 0
AreAccepting m set = (s : ℕ) → s < size m → IsTrue (has_state set s) ↔ ((k : ℕ) × Accepts m.states k s [])

-- the set has the last byte of each text that leads to an end
abbrev pub HasLastBytes : NfaValue → ByteSet → Type 0
HasLastBytes m set = (y : List ℕ) (b k : ℕ) → IsReached m (y ++ b ∷ []) k → IsTrue (has_byte set b)

-- from some state of a list the text leads to an end of the index k
abbrev pub AcceptsIn : NfaValue → List ℕ → List ℕ → ℕ → Type 0
AcceptsIn m list y k = (t : ℕ) × IsTrue (has_number t list) × Accepts m.states k t y
