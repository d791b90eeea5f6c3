use Rattle.std.proofs.Common.{◌≡◌, ℕ, ◌+◌, ◌≤◌, List, Some}
use Rattle.std.specs.Prelude.{◌↔◌}
use Rattle.bit_sets.specs.StateSets.{has_state, state_capacity}
use Rattle.byte_nfa.specs.inner.Stepping.{AreCounted, StepsBelow, EndsBelow}
use Rattle.byte_nfa.proofs.stepping.next_end.Given as goal

abbrev pub invariant-loop-s : goal.invariant-loop-s
invariant-loop-s l =
    let m = l.automaton in record {
      within : l.limit ≤ l.fn.limit;
      from_capacity : state_capacity l.from ≡ state_capacity l.fn.from;
      to_capacity : state_capacity l.to ≡ state_capacity l.fn.to;
      steps : (b : ℕ) (y : List ℕ) (k : ℕ) → l.byte ≡ Some b → StepsBelow m l.fn.from l.fn.limit l.fn.to b y k ↔ StepsBelow m l.from l.limit l.to b y k;
      ends : (i : ℕ) → l.lowest ≤ i → EndsBelow m l.fn.from l.fn.limit i ↔ EndsBelow m l.from l.limit i;
      visits : l.visits + l.limit ≤ l.fn.visits + l.fn.limit;
      counted : AreCounted (has_state l.fn.to) (has_state l.to) l.fn.visits l.visits;
    }

abbrev pub decreases-loop-s : goal.decreases-loop-s
decreases-loop-s l = l.limit
