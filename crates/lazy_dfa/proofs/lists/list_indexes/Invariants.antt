use Rattle.std.proofs.Common.{◌-◌, ◌≤◌, length}
use Rattle.bit_sets.specs.Indexes.{has_index}
use Rattle.bit_sets.proofs.lemmas.Lists.{IsReportedTo}
use Rattle.lazy_dfa.proofs.lists.list_indexes.Given as goal

abbrev pub invariant-loop-index : goal.invariant-loop-index
invariant-loop-index l = record {
  high : l.at ≤ l.limit;
  few : length l.list.items ≤ l.at;
  listed : IsReportedTo (has_index l.set) l.limit l.at l.list.items;
}

abbrev pub decreases-loop-index : goal.decreases-loop-index
decreases-loop-index l = l.limit - l.at
