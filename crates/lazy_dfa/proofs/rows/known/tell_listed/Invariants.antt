use Rattle.std.proofs.Common.{◌≡◌, ℕ, ◌⊎◌, IsTrue, drop}
use Rattle.std.specs.Prelude.{◌↔◌}
use Rattle.bit_sets.specs.Indexes.{has_index, index_capacity}
use Rattle.bit_sets.specs.Numbers.{has_number}
use Rattle.lazy_dfa.specs.inner.Lists.{list_at}
use Rattle.byte_nfa.specs.inner.Told.{ToldBy}
use Rattle.lazy_dfa.proofs.rows.known.tell_listed.Given as goal

abbrev pub invariant-loop-index : goal.invariant-loop-index
invariant-loop-index l =
    let list = list_at l.numbers l.place in
    record {
      room : index_capacity l.into ≡ index_capacity l.fn.into;
      has : (k : ℕ) → (ToldBy l.half (λ i. IsTrue (has_number i list)) l.lowest k ⊎ IsTrue (has_index l.fn.into k))
          ↔ (ToldBy l.half (λ i. IsTrue (has_number i (drop l.index-index list))) l.lowest k ⊎ IsTrue (has_index l.into k));
    }
