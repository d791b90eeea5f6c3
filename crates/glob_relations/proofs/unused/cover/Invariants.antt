use Rattle.std.proofs.Common.{ℕ, ◌<◌, [], ◌∷◌}
use Rattle.std.specs.Prelude.{slice_index}
use Rattle.glob_relations.specs.Answers.{IsCovered}
use Rattle.glob_relations.specs.Unused.{items_at}
use Rattle.glob_relations.proofs.unused.cover.Given as goal

abbrev pub invariant-loop-k : goal.invariant-loop-k
invariant-loop-k g l = (j : ℕ) → j < l.k-index → IsCovered (g.T.Compared.matches l.options) l.item (items_at l.items (slice_index l.others j ∷ [])) l.domain → ⊥
