use Rattle.std.proofs.Common.{◌≤◌}
use Rattle.byte_nfa.specs.Runs.{size}
use Rattle.engine.specs.inner.Known.{IsSharing}
use Rattle.engine.proofs.sharing.start_state.Given as goal

abbrev pub invariant-loop-list : goal.invariant-loop-list
invariant-loop-list l = record {
  sharing : IsSharing l.automaton l.builder l.sharing.known;
  states : size l.builder ≤ size l.automaton;
}

abbrev pub decreases-loop-list : goal.decreases-loop-list
decreases-loop-list l = l.sharing.left
