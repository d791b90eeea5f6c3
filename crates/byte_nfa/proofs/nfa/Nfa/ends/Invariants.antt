use Rattle.std.proofs.Common.{◌≡◌, ℕ, ◌≤◌, [], ◌⊎◌, false, IsTrue}
use Rattle.std.specs.Prelude.{◌↔◌}
use Rattle.bit_sets.specs.Indexes.{has_index, index_capacity}
use Rattle.bit_sets.specs.StateSets.{has_state, state_capacity}
use Rattle.byte_nfa.specs.Runs.{size}
use Rattle.byte_nfa.specs.inner.Pass.{AcceptsNow, PassInvariant}
use Rattle.byte_nfa.proofs.nfa.Nfa.ends.Given as goal

abbrev pub invariant-loop-s : goal.invariant-loop-s
invariant-loop-s l =
    let a = l.self.states in
    let n = size l.self in record {
      within : l.limit ≤ n;
      from_capacity : state_capacity l.from ≡ state_capacity l.fn.from;
      into_capacity : index_capacity l.into ≡ index_capacity l.fn.into;
      holds : (k : ℕ) → (AcceptsNow a (has_state l.fn.from) n [] k ⊎ IsTrue (has_index l.fn.into k)) ↔ PassInvariant a (has_state l.from) l.limit (λ _. false) (has_index l.into) [] k;
    }

abbrev pub decreases-loop-s : goal.decreases-loop-s
decreases-loop-s l = l.limit
