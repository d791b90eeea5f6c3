use Rattle.std.proofs.Common.{◌≡◌, ℕ, ◌≤◌, ◌∷◌, List, false}
use Rattle.std.specs.Prelude.{◌↔◌}
use Rattle.bit_sets.specs.StateSets.{has_state, state_capacity}
use Rattle.byte_nfa.specs.Runs.{size}
use Rattle.byte_nfa.specs.inner.Pass.{AcceptsNow, PassInvariant}
use Rattle.glob_relations.proofs.pass.step_set.Given as goal

abbrev pub invariant-loop-s : goal.invariant-loop-s
invariant-loop-s l =
    let a = l.automaton.states in
    let n = size l.automaton in record {
      within : l.limit ≤ n;
      from_capacity : state_capacity l.from ≡ state_capacity l.fn.from;
      to_capacity : state_capacity l.to ≡ state_capacity l.fn.to;
      steps : (y : List ℕ) (k : ℕ) → AcceptsNow a (has_state l.fn.from) n (l.byte ∷ y) k ↔ PassInvariant a (has_state l.from) l.limit (has_state l.to) (λ _. false) (l.byte ∷ y) k;
    }

abbrev pub decreases-loop-s : goal.decreases-loop-s
decreases-loop-s l = l.limit
