-- The parts of an automaton as it is run.
use Rattle.std.specs.Prelude.{◌≡◌, ℕ, ◌+◌, ◌<◌, ◌≤◌, ◌⊎◌, List, IsTrue}
use Rattle.bit_sets.specs.Numbers.{has_number}
use Rattle.byte_nfa.specs.Steps.{NfaValue, state, match_state}
use Rattle.byte_nfa.specs.Live.{AreLive}
use Rattle.byte_nfa.specs.Runs.{size}
use Rattle.bit_sets.specs.StateSets.{state_capacity}
use Rattle.bit_sets.specs.declared.state_set.StateSet.{StateSet}
use Rattle.byte_nfa.specs.EarlyMatches.{EndsAtEarlyMatches, half}
use Rattle.byte_nfa.specs.Sharing.{Shares}

-- there are fewer than 2^32 states and indexes, so that a u32 holds each, and how many they are
pub record FitsU32 (m : NfaValue) : Type 0 where
  pub states : size m < 4294967296
  pub indexes : m.index_count < 4294967296

-- the list has each index that a state is the end of, or says is decided
abbrev pub ListsEnds : NfaValue → List ℕ → Type 0
ListsEnds m list = (s k : ℕ) → s < size m → k < half m → (state m.states s ≡ match_state k) ⊎ (state m.states s ≡ match_state (half m + k)) → IsTrue (has_number k list)

-- the automaton that is run has an end in place of each state that decides an index of another one, which is the source, or leads to the
-- same ends and has no more states and no more starts
pub record RunsFor (source run : NfaValue) : Type 0 where
  pub sharing : NfaValue
  pub shares : Shares source sharing
  pub early : EndsAtEarlyMatches sharing run

-- what is run for the source, and of that the states from which some bytes lead to an end, and the indexes
pub record IsMadeOf (source automaton : NfaValue) (leads : StateSet) (indexes : List ℕ) : Type 0 where
  pub runs : RunsFor source automaton
  pub live : AreLive automaton leads
  pub room : size automaton ≤ state_capacity leads
  pub listed : ListsEnds automaton indexes
