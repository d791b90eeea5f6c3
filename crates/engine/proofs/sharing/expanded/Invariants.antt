use Rattle.std.proofs.Common.{ℕ, ◌≤◌, List, ◌⊎◌}
use Rattle.std.specs.Prelude.{◌↔◌}
use Rattle.engine.specs.inner.Lists.{AcceptsSome}
use Rattle.engine.proofs.sharing.expanded.Given as goal

abbrev pub invariant-loop-s : goal.invariant-loop-s
invariant-loop-s l = record {
  left : l.left ≤ l.fn.left;
  same : (y : List ℕ) (k : ℕ) → AcceptsSome l.automaton.states l.list y k ↔ (AcceptsSome l.automaton.states l.states.items y k ⊎ AcceptsSome l.automaton.states l.waiting.items y k);
}

abbrev pub decreases-loop-s : goal.decreases-loop-s
decreases-loop-s l = l.left
