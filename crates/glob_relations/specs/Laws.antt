-- Laws of globs that cover a glob, and of globs that are disjoint.
use Rattle.std.specs.Prelude.{◌≡◌, ◌↔◌, ◌&&◌, not, List, [], ◌∷◌, ◌++◌, ℕ, Contains, filter, IsFalse}
use Rattle.glob_text.specs.GlobMatches.{GlobValue, glob_matches}
use Rattle.set_matcher.specs.Answer.{matching_indexes}
use Rattle.set_matcher.specs.Excluded.{excluded}
use Rattle.glob_relations.specs.Answers.{IsCovered, AreDisjoint}
use Rattle.glob_relations.specs.Domains.{IsIn}
use Rattle.glob_relations.specs.declared.domain.Domain.{Domain}

-- A glob is covered by itself.
abbrev pub CoversItself : Type 0
CoversItself = (g : GlobValue) (domain : Domain) → IsCovered glob_matches g (g ∷ []) domain

-- What some globs cover is covered by more globs.
abbrev pub CoversWithMore : Type 0
CoversWithMore = (g : GlobValue) (few many : List GlobValue) (domain : Domain) → ((h : GlobValue) → Contains few h → Contains many h) → IsCovered glob_matches g few domain → IsCovered glob_matches g many domain

-- No path of the domain is matched by both of two disjoint globs.
abbrev pub DisjointShareNone : Type 0
DisjointShareNone = (a b : GlobValue) (domain : Domain) → AreDisjoint a b domain → (path : List ℕ) → IsIn domain path → IsFalse (glob_matches a path && glob_matches b path)

-- the globs of a list that are not excluded
abbrev pub included : List GlobValue → List GlobValue
included gs = filter (λ g. not (excluded g)) gs

-- If other globs of a set, which are not excluded, cover a glob of it, then the set without that glob matches the same paths of
-- the domain.
abbrev pub CoveredIsNotNeeded : Type 0
CoveredIsNotNeeded = (before after : List GlobValue) (g : GlobValue) (domain : Domain) → IsCovered glob_matches g (included (before ++ after)) domain → (path : List ℕ) → IsIn domain path
    → (matching_indexes (before ++ g ∷ after) path ≡ []) ↔ (matching_indexes (before ++ after) path ≡ [])
