use Rattle.std.proofs.Common.{◌-◌, ◌≤◌, length}
use Rattle.glob_relations.specs.inner.Memory.{HasRoom}
use Rattle.glob_relations.specs.inner.Rows.{AreRows, AreDone, CameBefore}
use Rattle.glob_relations.proofs.search.ask.Given as goal

abbrev pub invariant-loop-next : goal.invariant-loop-next
invariant-loop-next l = record {
  room : HasRoom l.automaton l.memory;
  rows : AreRows l.automaton l.question l.rows;
  before : CameBefore l.rows l.next;
  within : l.next ≤ length l.rows.seen.keys;
  done : AreDone l.automaton l.question l.rows l.next;
}

abbrev pub decreases-loop-next : goal.decreases-loop-next
decreases-loop-next l = l.limit - l.next
