use Rattle.std.proofs.Common.{ℕ, ◌<◌, ◌≤◌, IsTrue}
use Rattle.std.specs.Prelude.{◌↔◌}
use Rattle.bit_sets.specs.Numbers.{has_number}
use Rattle.bit_sets.specs.StateSets.{has_state}
use Rattle.glob_relations.specs.inner.Rows.{AreStates}
use Rattle.glob_relations.proofs.pass.states_of.Given as goal

abbrev pub invariant-loop-s : goal.invariant-loop-s
invariant-loop-s l = record {
  within : l.high ≤ l.limit;
  states : AreStates l.limit l.list.items;
  has : (t : ℕ) → IsTrue (has_number t l.list.items) ↔ ((l.high ≤ t) × (t < l.limit) × IsTrue (has_state l.set t));
}

abbrev pub decreases-loop-s : goal.decreases-loop-s
decreases-loop-s l = l.high
