use Rattle.std.proofs.Common.{◌≡◌, ◌+◌, drop}
use Rattle.glob_path.specs.inner.Anchors.{from_anchor}
use Rattle.glob_path.specs.inner.Nodes.{after_run}
use Rattle.glob_path.proofs.tree.skip.Given as goal

abbrev pub invariant-loop-byte : goal.invariant-loop-byte
invariant-loop-byte l = record {
  end : l.end ≡ l.at + l.byte-index;
  rest : after_run l.run (drop l.at (from_anchor l.anchor l.path)) ≡ after_run (drop l.byte-index l.run) (drop l.end (from_anchor l.anchor l.path));
}
