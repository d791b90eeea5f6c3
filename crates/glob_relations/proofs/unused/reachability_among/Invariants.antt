use Rattle.std.proofs.Common.{◌≡◌, ℕ, ◌⊎◌, [], ◌∷◌, length}
use Rattle.std.specs.Prelude.{IsFalse}
use Rattle.bit_sets.specs.Indexes.{has_index}
use Rattle.glob_relations.specs.Answers.{IsCovered}
use Rattle.glob_relations.specs.Unused.{items_at}
use Rattle.glob_relations.proofs.lemmas.Indexes.{IsSplit}
use Rattle.glob_relations.proofs.unused.reachability_among.Given as goal

abbrev pub invariant-loop-rest : goal.invariant-loop-rest
invariant-loop-rest g l = record {
  split : IsSplit l.others l.by.items l.rest.items;
  known : (l.by.items ≡ []) ⊎ ((IsCovered (g.T.Compared.matches l.options) l.item [] l.domain → ⊥)
      × ((k : ℕ) → IsFalse (has_index l.found k) → IsCovered (g.T.Compared.matches l.options) l.item (items_at l.items (k ∷ [])) l.domain → ⊥));
}

abbrev pub decreases-loop-rest : goal.decreases-loop-rest
decreases-loop-rest g l = length l.rest.items
