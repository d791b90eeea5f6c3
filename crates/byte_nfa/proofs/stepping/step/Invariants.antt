use Rattle.std.proofs.Common.{◌≡◌, ℕ, ◌+◌, ◌≤◌, ◌⊎◌, false, List, [], ◌∷◌, Some, IsTrue}
use Rattle.std.specs.Prelude.{◌↔◌}
use Rattle.bit_sets.specs.Indexes.{has_index, index_capacity}
use Rattle.bit_sets.specs.StateSets.{has_state, state_capacity}
use Rattle.byte_nfa.specs.Runs.{size, AcceptsFrom}
use Rattle.byte_nfa.specs.inner.Stepping.{AreCounted, StepsBelow, EndsBelow}
use Rattle.byte_nfa.specs.EarlyMatches.{half}
use Rattle.byte_nfa.specs.inner.Told.{ToldBy}
use Rattle.byte_nfa.proofs.stepping.step.Given as goal

abbrev pub invariant-loop-index : goal.invariant-loop-index
invariant-loop-index l =
    let m = l.automaton in record {
      within : l.limit ≤ size m;
      from_capacity : state_capacity l.from ≡ state_capacity l.fn.from;
      to_capacity : state_capacity l.to ≡ state_capacity l.fn.to;
      room : index_capacity l.found ≡ index_capacity l.fn.found;
      steps : (b : ℕ) (y : List ℕ) (k : ℕ) → l.byte ≡ Some b → AcceptsFrom m l.fn.from (b ∷ y) k ↔ StepsBelow m l.from l.limit l.to b y k;
      told : (k : ℕ) → (ToldBy (half m) (AcceptsFrom m l.fn.from []) l.lowest k ⊎ IsTrue (has_index l.fn.found k)) ↔ (ToldBy (half m) (EndsBelow m l.from l.limit) l.lowest k ⊎ IsTrue (has_index l.found k));
      visits : l.visits + l.limit ≤ l.fn.visits + size m;
      counted : AreCounted (λ _. false) (has_state l.to) l.fn.visits l.visits;
    }

abbrev pub decreases-loop-index : goal.decreases-loop-index
decreases-loop-index l = l.limit
