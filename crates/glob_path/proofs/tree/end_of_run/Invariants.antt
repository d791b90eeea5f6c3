use Rattle.std.proofs.Common.{◌≡◌}
use Rattle.std.specs.List.{AllWithin}
use Rattle.glob_path.specs.inner.Building.{next_of}
use Rattle.glob_path.proofs.tree.end_of_run.Given as goal

abbrev pub invariant-loop-at : goal.invariant-loop-at
invariant-loop-at l = AllWithin (λ t. next_of l.span.depth t ≡ l.next) l.texts l.span.from l.at
