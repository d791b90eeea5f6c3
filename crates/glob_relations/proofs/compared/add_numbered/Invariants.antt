use Rattle.std.proofs.Common.{◌≡◌, ℕ, ◌+◌, List, ◌++◌, drop}
use Rattle.glob_relations.specs.inner.Automata.{IsFor, numbered}
use Rattle.glob_relations.proofs.compared.add_numbered.Given as goal

abbrev pub invariant-loop-k : goal.invariant-loop-k
invariant-loop-k g l = record {
  index_count : l.builder.index_count ≡ l.fn.builder.index_count;
  items : (ys : List (g.row.T.Denot × ℕ)) → IsFor (g.T.Compared.matches l.options) ys l.fn.builder
      → (xs : List (g.row.T.Denot × ℕ)) × IsFor (g.T.Compared.matches l.options) xs l.builder × (xs ++ numbered (l.first + l.k) (drop l.k l.items) ≡ ys ++ numbered l.first l.items);
}
