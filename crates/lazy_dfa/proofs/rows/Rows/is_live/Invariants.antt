use Rattle.std.proofs.Common.{◌≡◌, ℕ, ◌+◌, ◌<◌, ◌≤◌, false, slice_index}
use Rattle.bit_sets.specs.StateSets.{has_state}
use Rattle.lazy_dfa.proofs.rows.Rows.is_live.Given as goal

abbrev pub invariant-loop-state : goal.invariant-loop-state
invariant-loop-state l = record {
  none : (n : ℕ) → n < l.state-index → has_state l.live (slice_index l.state-items n) ≡ false;
  visits : l.visits ≤ l.fn.visits + l.state-index;
  counted : l.fn.visits ≤ l.visits;
}
