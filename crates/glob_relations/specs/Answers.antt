-- Answers about globs, and about patterns of ignore files: whether one is covered by others, and whether two globs match a path in
-- common. Both are items here, and `matches` says which paths an item matches. A pattern matches whether it is negated or not, and
-- whether it is for folders alone or not.
use Rattle.std.specs.Prelude.{ℕ, Bool, List, [], ◌∷◌, IsTrue, IsFalse}
use Rattle.std.specs.List.{list_any}
use Rattle.byte_nfa.specs.Steps.{NfaValue}
use Rattle.glob_text.specs.GlobMatches.{GlobValue, glob_matches}
use Rattle.glob_relations.specs.Domains.{IsIn}
use Rattle.glob_relations.specs.Shortest.{IsShortest}
use Rattle.glob_relations.specs.declared.domain.Domain.{Domain}
use Rattle.glob_relations.specs.declared.relations.Coverage.{Coverage}
use Rattle.glob_relations.specs.declared.relations.Coverage.TheVariants.{Covered, Not, Unknown}
use Rattle.glob_relations.specs.declared.relations.Intersection.{Intersection}
use Rattle.glob_relations.specs.declared.relations.Intersection.TheVariants.{Disjoint, Both, Unknown as Undecided}
use Rattle.glob_relations.specs.inner.Automata.{IsFor, under}
use Rattle.glob_relations.specs.inner.Rows.{HasMoreRows}

-- some item of the list matches the path
abbrev pub some_match : {A : Type 0} → (A → List ℕ → Bool) → List A → List ℕ → Bool
some_match matches xs path = list_any (λ x. matches x path) xs

-- each path of the domain that the item matches is matched by some of the others
abbrev pub IsCovered : {A : Type 0} → (A → List ℕ → Bool) → A → List A → Domain → Type 0
IsCovered matches x by domain = (path : List ℕ) → IsIn domain path → IsTrue (matches x path) → IsTrue (some_match matches by path)

-- the path is in the domain, the item matches it, and none of the others does
abbrev pub IsMissed : {A : Type 0} → (A → List ℕ → Bool) → A → List A → Domain → List ℕ → Type 0
IsMissed matches x by domain path = IsIn domain path × IsTrue (matches x path) × IsFalse (some_match matches by path)

-- The answer is right: the item is covered; or the path is a shortest path that the others miss; or paths lead to more than
-- `limit` different rows of an automaton for the items.
abbrev pub TellsCovering : {A : Type 0} → (A → List ℕ → Bool) → A → List A → Domain → ℕ → Coverage → Type 0
TellsCovering matches x by domain limit Covered = IsCovered matches x by domain
TellsCovering matches x by domain limit (Not path) = IsShortest (IsMissed matches x by domain) path.items
TellsCovering matches x by domain limit Unknown = (m : NfaValue) × IsFor matches ((x, 0) ∷ under 1 by) m × HasMoreRows m domain limit

-- no path of the domain is matched by both globs
abbrev pub AreDisjoint : GlobValue → GlobValue → Domain → Type 0
AreDisjoint a b domain = (path : List ℕ) → IsIn domain path → IsTrue (glob_matches a path) → IsTrue (glob_matches b path) → ⊥

-- the path is in the domain, and both globs match it
abbrev pub IsShared : GlobValue → GlobValue → Domain → List ℕ → Type 0
IsShared a b domain path = IsIn domain path × IsTrue (glob_matches a path) × IsTrue (glob_matches b path)

-- The answer is right: the globs are disjoint; or the path is a shortest path that both match; or paths lead to more than `limit`
-- different rows of an automaton for the globs.
abbrev pub TellsOverlap : GlobValue → GlobValue → Domain → ℕ → Intersection → Type 0
TellsOverlap a b domain limit Disjoint = AreDisjoint a b domain
TellsOverlap a b domain limit (Both path) = IsShortest (IsShared a b domain) path.items
TellsOverlap a b domain limit Undecided = (m : NfaValue) × IsFor glob_matches ((a, 0) ∷ (b, 1) ∷ []) m × HasMoreRows m domain limit
