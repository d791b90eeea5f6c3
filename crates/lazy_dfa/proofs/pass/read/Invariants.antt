use Rattle.std.proofs.Common.{◌≡◌, ℕ, ◌+◌, ◌≤◌, List, [], ◌∷◌, false}
use Rattle.std.specs.Prelude.{◌↔◌, length, vec_capacity}
use Rattle.bit_sets.specs.Numbers.{has_number, AreBelow}
use Rattle.bit_sets.specs.Indexes.{has_index, index_capacity}
use Rattle.bit_sets.specs.StateSets.{has_state, state_capacity}
use Rattle.byte_nfa.specs.Runs.{size}
use Rattle.byte_nfa.specs.inner.Pass.{AcceptsNow, PassInvariant}
use Rattle.lazy_dfa.proofs.pass.read.Given as goal

abbrev pub invariant-loop-s : goal.invariant-loop-s
invariant-loop-s l =
    let a = l.automaton.states in
    let n = size l.automaton in record {
      within : l.limit ≤ n;
      from_capacity : state_capacity l.from ≡ state_capacity l.fn.from;
      to_capacity : vec_capacity l.fn.to ≤ vec_capacity l.to;
      below : AreBelow n l.to.items;
      few : length l.to.items + l.limit ≤ n;
      ends_capacity : index_capacity l.ends ≡ index_capacity l.fn.ends;
      steps : (y : List ℕ) (k : ℕ) → AcceptsNow a (has_state l.fn.from) n (l.byte ∷ y) k ↔ PassInvariant a (has_state l.from) l.limit (λ t. has_number t l.to.items) (λ _. false) (l.byte ∷ y) k;
      ends : (k : ℕ) → AcceptsNow a (has_state l.fn.from) n [] k ↔ PassInvariant a (has_state l.from) l.limit (λ _. false) (has_index l.ends) [] k;
      visits : l.visits + l.limit ≤ l.fn.visits + n;
      counted : l.fn.visits + length l.to.items ≤ l.visits;
    }

abbrev pub decreases-loop-s : goal.decreases-loop-s
decreases-loop-s l = l.limit
