use Rattle.std.proofs.Common.{◌≡◌, ℕ, List, ◌∷◌, ◌++◌, drop}
use Rattle.glob_relations.specs.Unused.{items_at}
use Rattle.glob_relations.specs.inner.Automata.{IsFor, under}
use Rattle.glob_relations.proofs.compared.builder_at.Given as goal

abbrev pub invariant-loop-k : goal.invariant-loop-k
invariant-loop-k g l = record {
  index_count : l.builder.index_count ≡ l.index_count;
  items : (xs : List (g.row.T.Denot × ℕ)) × IsFor (g.T.Compared.matches l.options) xs l.builder × (xs ++ under 1 (items_at l.items (drop l.k-index l.by)) ≡ (l.item, 0) ∷ under 1 (items_at l.items l.by));
}
