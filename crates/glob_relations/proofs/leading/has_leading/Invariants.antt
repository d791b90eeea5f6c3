use Rattle.std.proofs.Common.{ℕ, ◌<◌, IsTrue}
use Rattle.std.specs.Prelude.{slice_index}
use Rattle.glob_relations.specs.inner.Leading.{mark}
use Rattle.glob_relations.proofs.leading.has_leading.Given as goal

abbrev pub invariant-loop-s : goal.invariant-loop-s
invariant-loop-s l = (j : ℕ) → j < l.s-index → IsTrue (mark l.marks (slice_index l.states j)) → ⊥
