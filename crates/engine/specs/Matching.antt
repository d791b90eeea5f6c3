-- What runs of an automaton find.
use Rattle.std.specs.Prelude.{ℕ, ◌⊎◌, ◌↔◌, List, IsTrue}
use Rattle.bit_sets.specs.Indexes.{has_index}
use Rattle.bit_sets.specs.declared.index_set.IndexSet.{IndexSet}
use Rattle.byte_nfa.specs.Steps.{IsReached, NfaValue}

-- the set has afterwards the index of each end that the text leads to, in addition to its old indexes
abbrev pub AddsReached : NfaValue → List ℕ → IndexSet → IndexSet → Type 0
AddsReached m text before after = (k : ℕ) → IsTrue (has_index after k) ↔ (IsReached m text k ⊎ IsTrue (has_index before k))
