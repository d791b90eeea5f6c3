use Rattle.std.proofs.Common.{◌≡◌, ◌+◌, ◌-◌, ◌<◌, ◌≤◌, length, drop}
use Rattle.glob_path.specs.inner.Anchors.{from_anchor}
use Rattle.glob_path.specs.inner.Nodes.{under, along, node_count}
use Rattle.glob_path.proofs.tree.has_some.Given as goal

abbrev pub invariant-loop-reading : goal.invariant-loop-reading
invariant-loop-reading l = record {
  found : (along (under l.tree l.node) (drop l.at (from_anchor l.anchor l.path)) ≡ along (under l.tree 0) (from_anchor l.anchor l.path));
  node : l.node < node_count l.tree;
  at : l.at ≤ length l.path;
  visits : l.visits ≤ l.initial.visits + l.at;
  counted : l.initial.visits ≤ l.visits;
}

abbrev pub decreases-loop-reading : goal.decreases-loop-reading
decreases-loop-reading l = length l.path + 1 - l.at
