use Rattle.std.proofs.Common.{◌≡◌, ℕ, ◌+◌, ◌*◌, ◌≤◌, ◌++◌, List, min, drop}
use Rattle.std.specs.Prelude.{◌↔◌}
use Rattle.bit_sets.specs.StateSets.{has_state, state_capacity}
use Rattle.byte_nfa.specs.Runs.{size, AcceptsFrom}
use Rattle.byte_nfa.specs.EarlyMatches.{half, FindsBy}
use Rattle.byte_nfa.specs.inner.Stepping.{AreCounted}
use Rattle.byte_nfa.proofs.stepping.read.Given as goal

abbrev pub invariant-loop-byte : goal.invariant-loop-byte
invariant-loop-byte l =
    let m = l.automaton in record {
      sets : min (state_capacity l.from) (state_capacity l.to) ≡ min (state_capacity l.fn.from) (state_capacity l.fn.to);
      runs : (z : List ℕ) (k : ℕ) → FindsBy (half m) (AcceptsFrom m l.from) (drop l.byte-index l.text ++ z) k ↔ FindsBy (half m) (AcceptsFrom m l.fn.from) (l.text ++ z) k;
      visits : l.visits ≤ l.fn.visits + l.byte-index * size m;
      counted : AreCounted (has_state l.fn.from) (has_state l.from) l.fn.visits l.visits;
    }
