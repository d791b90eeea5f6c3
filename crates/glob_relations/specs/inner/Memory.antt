-- The sets that steps need.
use Rattle.std.specs.Prelude.{◌≤◌}
use Rattle.bit_sets.specs.Indexes.{index_capacity}
use Rattle.bit_sets.specs.StateSets.{state_capacity}
use Rattle.byte_nfa.specs.Steps.{NfaValue}
use Rattle.byte_nfa.specs.Runs.{size}
use Rattle.glob_relations.specs.declared.search.Memory.{Memory}

-- there is room for the states and the indexes of the automaton
pub record HasRoom (m : NfaValue) (memory : Memory) : Type 0 where
  pub from : size m ≤ state_capacity memory.from
  pub to : size m ≤ state_capacity memory.to
  pub ends : m.index_count ≤ index_capacity memory.ends
