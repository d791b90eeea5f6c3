-- Some of the indexes that a run over a text puts into a set.
use Rattle.std.specs.Prelude.{ℕ, ◌⊎◌, List, IsTrue}
use Rattle.bit_sets.specs.Indexes.{has_index}
use Rattle.bit_sets.specs.declared.index_set.IndexSet.{IndexSet}
use Rattle.byte_nfa.specs.Steps.{IsReached, NfaValue}

-- the set has afterwards some of these indexes, in addition to its old indexes
pub record AddsSome (m : NfaValue) (text : List ℕ) (before after : IndexSet) : Type 0 where
  pub kept : (k : ℕ) → IsTrue (has_index before k) → IsTrue (has_index after k)
  pub sound : (k : ℕ) → IsTrue (has_index after k) → IsReached m text k ⊎ IsTrue (has_index before k)
