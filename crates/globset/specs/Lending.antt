-- The values of builders and searchers after a reference that they returned is no longer used.
use Rattle.std.specs.Borrow.{LendsIfOk, Bor, MutBor, Fml}
use Rattle.std.specs.Io.BufRead.{Rests}
use Rattle.std.specs.Prelude.{◌≡◌, ℕ, List, Result}
use Rattle.globset.specs.SearcherValue.{SearcherValue}
use Rattle.globset.specs.SetValue.{BuilderValue}
use Rattle.globset.specs.contracts.builder.GlobSetBuilder as GlobSetBuilder
use Rattle.globset.specs.contracts.searcher.Searcher as Searcher

-- `s` is the builder as it was passed, and `r` the result. After `Ok` the builder has the last value of the returned
-- reference, and so all globs that were added through it. After `Err` it has the value that it was passed with.
abbrev pub LendsItself : {E : Type 0} → MutBor BuilderValue → Result (MutBor BuilderValue) E → Fml
LendsItself s r = LendsIfOk GlobSetBuilder.the_row GlobSetBuilder.the_row s r (λ w. w) s.now

-- `s` is the searcher as it was passed, and `r` the indexes that it returned. It keeps its set, and these are its last result.
abbrev pub LendsFound : MutBor SearcherValue → Bor (List ℕ) → Fml
LendsFound s r = Rests Searcher.the_row s (λ new. (new.set ≡ s.now.set) × (new.found ≡ r.now))
