use Rattle.std.proofs.Common.{length, ◌-◌, ◌≤◌}
use Rattle.engine.proofs.lemmas.Chunks.{AreChunked}
use Rattle.engine.proofs.sharing.push_list.Given as goal

abbrev pub invariant-loop-at : goal.invariant-loop-at
invariant-loop-at l = record {
  within : l.at ≤ length l.states;
  chunked : AreChunked l.automaton l.builder l.known l.states l.at l.parts.items;
}

abbrev pub decreases-loop-at : goal.decreases-loop-at
decreases-loop-at l = length l.states - l.at
