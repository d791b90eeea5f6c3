use Rattle.std.proofs.Common.{length, ◌-◌, ◌≤◌}
use Rattle.byte_nfa.specs.Reading.{is_read}
use Rattle.engine.specs.inner.Chunks.{IsChunk}
use Rattle.engine.proofs.sharing.Chunk.at.Given as goal

abbrev pub invariant-loop-end : goal.invariant-loop-end
invariant-loop-end l = record {
  order : l.start ≤ l.end;
  within : l.end ≤ length l.states;
  chunk : IsChunk l.automaton.states l.states l.start l.end (is_read l.like) l.nexts.items;
}

abbrev pub decreases-loop-end : goal.decreases-loop-end
decreases-loop-end l = length l.states - l.end
