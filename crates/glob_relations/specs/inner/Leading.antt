-- States from which a text may lead to an end.
use Rattle.std.specs.Prelude.{◌≡◌, ℕ, Bool, true, List, slice_index_or, IsTrue}
use Rattle.byte_nfa.specs.Steps.{State, bytes_state, union_state, loop_state, match_state, state, HasNumber, NfaValue}

-- the mark of a state; a state without a mark may lead to an end
abbrev pub mark : List Bool → ℕ → Bool
mark marks s = slice_index_or marks s true

-- the state is an end of the index k, or leads to a state whose mark is true
abbrev pub LeadsOn : ℕ → List Bool → State → Type 0
LeadsOn k marks (bytes_state w t) = IsTrue (mark marks t)
LeadsOn k marks (union_state ts) = (t : ℕ) × HasNumber t ts × IsTrue (mark marks t)
LeadsOn k marks (loop_state w ts) = (t : ℕ) × HasNumber t ts × IsTrue (mark marks t)
LeadsOn k marks (match_state j) = j ≡ k

-- the mark of each state that `LeadsOn` is about is true
abbrev pub AreLeading : NfaValue → ℕ → List Bool → Type 0
AreLeading m k marks = (s : ℕ) → LeadsOn k marks (state m.states s) → IsTrue (mark marks s)
