-- Answers of sets.
use Rattle.std.specs.Prelude.{ℕ, List, length}
use Rattle.globset.specs.Answer.{matching_indexes}
use Rattle.globset.specs.Indexes.{ContainsAllBelow}
use Rattle.globset.specs.SetValue.{SetValue, set_globs}

-- Every glob of the set matches the path, and none is excluded: the answer has every index.
unfoldable pub IsAll : SetValue → List ℕ → Type 0
IsAll s path = ContainsAllBelow (matching_indexes (set_globs s) path) (length (set_globs s))
