use Rattle.std.proofs.Common.{◌≡◌, ℕ, ◌||◌, drop}
use Rattle.bit_sets.specs.StateSets.{has_state, state_capacity}
use Rattle.bit_sets.specs.Numbers.{has_number}
use Rattle.bit_sets.proofs.state_set.StateSet.put_all.Given as goal

abbrev pub invariant-loop-state : goal.invariant-loop-state
invariant-loop-state l = record {
  room : state_capacity l.self ≡ state_capacity l.fn.self;
  has : (t : ℕ) → (has_number t (drop l.state-index l.states) || has_state l.self t) ≡ (has_number t l.states || has_state l.fn.self t);
}
