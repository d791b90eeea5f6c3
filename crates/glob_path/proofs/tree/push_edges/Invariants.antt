use Rattle.std.proofs.Common.{◌≡◌, ℕ, ◌+◌, ◌<◌, ◌≤◌, ◌-◌, ◌++◌, List, Some}
use Rattle.std.specs.Prelude.{slice_index_or}
use Rattle.std.specs.List.{AllByRecursion}
use Rattle.glob_path.specs.declared.trie.Text.{Text}
use Rattle.glob_path.specs.declared.tree.Span.{Span}
use Rattle.glob_path.specs.inner.Building.{rests, next_of, IsSplit}
use Rattle.glob_path.proofs.tree.push_edges.Given as goal

abbrev pub invariant-loop-from : goal.invariant-loop-from
invariant-loop-from l = record {
  low : l.span.from ≤ l.from;
  high : l.from ≤ l.span.to;
  bs : List ℕ;
  ss : List Span;
  bytes : l.bytes.items ≡ l.initial.bytes.items ++ bs;
  next : l.next.items ≡ l.initial.next.items ++ ss;
  split : IsSplit l.texts (l.span.depth + 1) (rests l.texts l.span.depth l.span.from l.from) bs ss;
  above : (y : ℕ) (e : Text) → l.from < l.span.to → next_of l.span.depth (slice_index_or l.texts l.from e) ≡ Some y → AllByRecursion (λ z. z < y) bs;
}

abbrev pub decreases-loop-from : goal.decreases-loop-from
decreases-loop-from l = l.span.to - l.from
