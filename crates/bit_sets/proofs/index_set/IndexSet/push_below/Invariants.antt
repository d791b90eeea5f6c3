use Rattle.std.proofs.Common.{◌≡◌, ◌≤◌, ◌-◌}
use Rattle.std.specs.Prelude.{filter, vec_capacity}
use Rattle.std.specs.List.{range_with_len}
use Rattle.bit_sets.specs.Indexes.{has_index}
use Rattle.bit_sets.proofs.index_set.IndexSet.push_below.Given as goal

abbrev pub invariant-loop-index : goal.invariant-loop-index
invariant-loop-index l = record {
  sofar : l.into.items ≡ filter (has_index l.self) (range_with_len 0 l.from);
  within : l.from ≤ l.end;
  capacity : vec_capacity l.initial.into ≤ vec_capacity l.into;
}

abbrev pub decreases-loop-index : goal.decreases-loop-index
decreases-loop-index l = l.end - l.from
