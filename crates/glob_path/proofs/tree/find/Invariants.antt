use Rattle.std.proofs.Common.{◌≡◌, ◌+◌, ◌-◌, ◌<◌, ◌≤◌, length, drop}
use Rattle.bit_sets.specs.Indexes.{index_capacity, HasAlso}
use Rattle.bit_sets.specs.declared.index_set.IndexSet.{IndexSet}
use Rattle.glob_path.specs.inner.Anchors.{from_anchor}
use Rattle.glob_path.specs.inner.Nodes.{under, along, node_count}
use Rattle.glob_path.proofs.tree.find.Given as goal

abbrev pub invariant-loop-reading : goal.invariant-loop-reading
invariant-loop-reading l = record {
  room : index_capacity l.into ≡ index_capacity l.initial.into;
  found : (new : IndexSet) → HasAlso l.into new (along (under l.tree l.node) (drop l.at (from_anchor l.anchor l.path))) → HasAlso l.initial.into new (along (under l.tree 0) (from_anchor l.anchor l.path));
  node : l.node < node_count l.tree;
  at : l.at ≤ length l.path;
  visits : l.visits ≤ l.initial.visits + l.at;
  counted : l.initial.visits ≤ l.visits;
}

abbrev pub decreases-loop-reading : goal.decreases-loop-reading
decreases-loop-reading l = length l.path + 1 - l.at
