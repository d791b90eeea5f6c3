use Rattle.std.proofs.Common.{ℕ, ◌+◌, ◌<◌, length}
use Rattle.std.specs.Prelude.{slice_index}
use Rattle.glob_relations.specs.inner.Memory.{HasRoom}
use Rattle.glob_relations.specs.inner.Rows.{AreRows, CameBefore, IsFollowedBy, KeepsRows}
use Rattle.glob_relations.proofs.search.expand.Given as goal

abbrev pub invariant-loop-byte : goal.invariant-loop-byte
invariant-loop-byte l = record {
  room : HasRoom l.automaton l.memory;
  rows : AreRows l.automaton l.question l.rows;
  before : CameBefore l.rows (l.number + 1);
  kept : KeepsRows l.fn.rows l.rows;
  number : l.number < length l.rows.seen.keys;
  followed : (j : ℕ) → j < l.byte-index → IsFollowedBy l.automaton l.question l.rows l.number (slice_index l.bytes j);
}
