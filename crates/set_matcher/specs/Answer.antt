-- The indexes that a set returns for a path.
use Rattle.std.specs.Prelude.{ℕ, List}
use Rattle.glob_text.specs.GlobMatches.{GlobValue}
use Rattle.set_matcher.specs.Indexes.{passing_indexes}
use Rattle.set_matcher.specs.Excluded.{is_reported}

-- The indexes, ascending, of the globs that are not excluded and match the path. Equal globs are all there or all not.
unfoldable pub matching_indexes : List GlobValue → List ℕ → List ℕ
matching_indexes globs path = passing_indexes (λ g. is_reported g path) globs
