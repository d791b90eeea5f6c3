use Rattle.std.proofs.Common.{◌≡◌, ◌-◌, ◌≤◌, length}
use Rattle.bit_sets.specs.Indexes.{has_index}
use Rattle.git_ignore.specs.inner.Entries.{last_found}
use Rattle.git_ignore.proofs.entry.last_entry_for.Given as goal

abbrev pub invariant-loop-index : goal.invariant-loop-index
invariant-loop-index l = record {
  within : l.from ≤ length l.entries;
  last : l.last ≡ last_found (has_index l.found) l.is_folder l.entries l.from;
}

abbrev pub decreases-loop-index : goal.decreases-loop-index
decreases-loop-index l = length l.entries - l.from
