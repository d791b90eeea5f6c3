-- Shortest paths that a glob matches.
use Rattle.std.specs.Prelude.{ℕ, List, [], IsTrue}
use Rattle.globset.specs.GlobMatches.{GlobValue, glob_matches}
use Rattle.glob_relations.specs.Answers.{TellsCovering}
use Rattle.glob_relations.specs.Domains.{IsIn}
use Rattle.glob_relations.specs.Shortest.{IsShortest}
use Rattle.glob_relations.specs.declared.domain.Domain.{Domain}
use Rattle.glob_relations.specs.declared.relations.Coverage.TheVariants.{Unknown as Undecided}
use Rattle.glob_answers.specs.declared.shortest.Example.{Example}
use Rattle.glob_answers.specs.declared.shortest.Example.TheVariants.{Path, Nothing, Unknown}

-- the path is in the domain, and the glob matches it
abbrev pub IsExample : GlobValue → Domain → List ℕ → Type 0
IsExample glob domain path = IsIn domain path × IsTrue (glob_matches glob path)

-- The answer is right: the path is a shortest one that the glob matches, or there is none. It is unknown only if it is not known
-- whether no globs cover the glob.
abbrev pub TellsExample : GlobValue → Domain → ℕ → Example → Type 0
TellsExample glob domain limit (Path path) = IsShortest (IsExample glob domain) path.items
TellsExample glob domain limit Nothing = (path : List ℕ) → IsExample glob domain path → ⊥
TellsExample glob domain limit Unknown = TellsCovering glob_matches glob [] domain limit Undecided
