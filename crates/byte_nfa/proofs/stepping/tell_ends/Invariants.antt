use Rattle.std.proofs.Common.{◌≡◌, ℕ, ◌+◌, ◌-◌, ◌≤◌, ◌⊎◌, IsTrue}
use Rattle.std.specs.Prelude.{◌↔◌}
use Rattle.bit_sets.specs.Indexes.{has_index, index_capacity}
use Rattle.byte_nfa.specs.inner.Told.{ToldBy}
use Rattle.byte_nfa.proofs.stepping.tell_ends.Given as goal

abbrev pub invariant-loop-index : goal.invariant-loop-index
invariant-loop-index l = record {
  low : l.lowest ≤ l.at;
  room : index_capacity l.into ≡ index_capacity l.fn.into;
  has : (k : ℕ) → (ToldBy l.half (λ i. IsTrue (has_index l.ends i)) l.lowest k ⊎ IsTrue (has_index l.fn.into k))
      ↔ (ToldBy l.half (λ i. (l.at ≤ i) × IsTrue (has_index l.ends i)) l.lowest k ⊎ IsTrue (has_index l.into k));
}

abbrev pub decreases-loop-index : goal.decreases-loop-index
decreases-loop-index l = l.half + l.half - l.at
