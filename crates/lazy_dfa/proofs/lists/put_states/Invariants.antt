use Rattle.std.proofs.Common.{◌≡◌, ℕ, ◌||◌, drop}
use Rattle.bit_sets.specs.StateSets.{has_state, state_capacity}
use Rattle.bit_sets.specs.Numbers.{has_number}
use Rattle.lazy_dfa.proofs.lists.put_states.Given as goal

abbrev pub invariant-loop-state : goal.invariant-loop-state
invariant-loop-state l = record {
  room : state_capacity l.into ≡ state_capacity l.fn.into;
  has : (t : ℕ) → (has_number t (drop l.state-index l.states) || has_state l.into t) ≡ (has_number t l.states || has_state l.fn.into t);
}
