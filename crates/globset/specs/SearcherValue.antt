-- Searchers as contracts see them.
use Rattle.std.specs.Prelude.{ℕ, List}
use Rattle.globset.specs.SetValue.{SetValue}

-- A searcher is seen as its set, and as the indexes that it found last. These are none before it was first asked for indexes.
pub record SearcherValue : Type 0 where
  pub set : SetValue
  pub found : List ℕ
