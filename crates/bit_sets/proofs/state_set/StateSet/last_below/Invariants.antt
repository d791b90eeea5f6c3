use Rattle.std.proofs.Common.{◌≡◌, ℕ, ◌+◌, ◌<◌, ◌≤◌, false}
use Rattle.bit_sets.specs.StateSets.{has_state}
use Rattle.bit_sets.proofs.state_set.StateSet.last_below.Given as goal

abbrev pub invariant-loop-end : goal.invariant-loop-end
invariant-loop-end l = record {
  within : l.end ≤ l.limit;
  none : (s : ℕ) → l.end ≤ s → s < l.limit → has_state l.self s ≡ false;
  visits : l.visits + l.end ≤ l.fn.visits + l.limit;
  counted : l.fn.visits ≤ l.visits;
}

abbrev pub decreases-loop-end : goal.decreases-loop-end
decreases-loop-end l = l.end
