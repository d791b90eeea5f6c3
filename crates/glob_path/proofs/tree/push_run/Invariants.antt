use Rattle.std.proofs.Common.{◌≡◌, ℕ, ◌-◌, ◌^◌, ◌++◌, List}
use Rattle.glob_path.specs.inner.Building.{IsSpan, ShareRun}
use Rattle.glob_path.proofs.tree.push_run.Given as goal

abbrev pub invariant-loop-byte : goal.invariant-loop-byte
invariant-loop-byte l = record {
  run : List ℕ;
  runs : l.runs.items ≡ l.initial.runs.items ++ run;
  shared : ShareRun l.texts l.fn.span run l.after;
  span : IsSpan l.texts l.least l.after;
}

abbrev pub decreases-loop-byte : goal.decreases-loop-byte
decreases-loop-byte l = 2 ^ 64 - l.after.depth
