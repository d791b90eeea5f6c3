use Rattle.std.proofs.Common.{ℕ, ◌+◌, ◌<◌, ◌≤◌, length, IsTrue}
use Rattle.std.specs.Prelude.{◌↔◌, vec_capacity}
use Rattle.bit_sets.specs.Numbers.{has_number, AreBelow}
use Rattle.bit_sets.specs.StateSets.{has_state}
use Rattle.lazy_dfa.proofs.lists.list_of.Given as goal

abbrev pub invariant-loop-s : goal.invariant-loop-s
invariant-loop-s l = record {
  within : l.high ≤ l.limit;
  below : AreBelow l.limit l.list.items;
  few : length l.list.items + l.high ≤ l.limit;
  has : (t : ℕ) → IsTrue (has_number t l.list.items) ↔ ((l.high ≤ t) × (t < l.limit) × IsTrue (has_state l.set t));
  capacity : vec_capacity l.fn.list ≤ vec_capacity l.list;
  visits : l.visits + l.high ≤ l.fn.visits + l.limit;
  counted : l.fn.visits ≤ l.visits;
}

abbrev pub decreases-loop-s : goal.decreases-loop-s
decreases-loop-s l = l.high
