-- States from which some bytes lead to an end, and the texts that lead to such states.
use Rattle.std.specs.Prelude.{ℕ, ◌<◌, ◌↔◌, List, ◌++◌, IsTrue}
use Rattle.byte_nfa.specs.Runs.{size}
use Rattle.bit_sets.specs.StateSets.{has_state}
use Rattle.byte_nfa.specs.Steps.{State, Accepts, NfaValue, IsReached}
use Rattle.bit_sets.specs.Texts.{AllBytes}
use Rattle.bit_sets.specs.declared.state_set.StateSet.{StateSet}

-- from the state s some bytes, perhaps none, lead to an end
abbrev pub IsLive : List State → ℕ → Type 0
IsLive a s = (k : ℕ) × (y : List ℕ) × AllBytes y × Accepts a k s y

-- the set has exactly the live states
abbrev pub AreLive : NfaValue → StateSet → Type 0
AreLive m set = (s : ℕ) → s < size m → IsTrue (has_state set s) ↔ IsLive m.states s

-- some text that begins with y, and has bytes alone after it, leads to an end
abbrev pub MatchesAfter : NfaValue → List ℕ → Type 0
MatchesAfter m y = (k : ℕ) × (rest : List ℕ) × AllBytes rest × IsReached m (y ++ rest) k
