use Rattle.std.proofs.Common.{◌≡◌, ℕ, ◌+◌, ◌<◌, ◌≤◌, false, IsTrue}
use Rattle.bit_sets.specs.StateSets.{has_state}
use Rattle.byte_nfa.specs.Runs.{size}
use Rattle.byte_nfa.proofs.nfa.Nfa.has_live.Given as goal

abbrev pub invariant-loop-s : goal.invariant-loop-s
invariant-loop-s l =
    let n = size l.self in record {
      within : l.limit ≤ n;
      none : (t : ℕ) → l.limit ≤ t → t < n → IsTrue (has_state l.from t) → has_state l.live t ≡ false;
      visits : l.visits + l.limit ≤ l.fn.visits + n;
      counted : l.fn.visits ≤ l.visits;
    }

abbrev pub decreases-loop-s : goal.decreases-loop-s
decreases-loop-s l = l.limit
