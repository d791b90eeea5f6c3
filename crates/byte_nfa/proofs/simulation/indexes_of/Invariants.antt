use Rattle.std.proofs.Common.{◌≡◌, ℕ, ◌+◌, ◌<◌, ◌⊎◌, IsTrue}
use Rattle.bit_sets.specs.Numbers.{has_number}
use Rattle.byte_nfa.specs.Steps.{state, match_state}
use Rattle.byte_nfa.proofs.simulation.indexes_of.Given as goal

abbrev pub invariant-loop-s : goal.invariant-loop-s
invariant-loop-s l = (s k : ℕ) → s < l.s → k < l.half → (state l.automaton.states s ≡ match_state k) ⊎ (state l.automaton.states s ≡ match_state (l.half + k))
    → IsTrue (has_number k l.indexes.items)
