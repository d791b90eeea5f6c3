-- How two lists of globs compare. A list matches a path if some glob of it does (`some_match glob_matches`).
use Rattle.std.specs.Prelude.{◌≡◌, ◌⊎◌, ℕ, List, [], ◌∷◌, Contains, IsTrue, IsFalse, ⊤}
use Rattle.globset.specs.GlobMatches.{GlobValue, glob_matches}
use Rattle.glob_relations.specs.Answers.{TellsCovering, some_match}
use Rattle.glob_relations.specs.Domains.{IsIn}
use Rattle.glob_relations.specs.declared.domain.Domain.{Domain}
use Rattle.glob_relations.specs.declared.relations.Coverage.{Coverage}
use Rattle.glob_relations.specs.declared.relations.Coverage.TheVariants.{Covered, Not, Unknown as Undecided}
use Rattle.glob_answers.specs.declared.comparison.Comparison.{Comparison}
use Rattle.glob_answers.specs.declared.comparison.Inclusion.{Inclusion}
use Rattle.glob_answers.specs.declared.comparison.Inclusion.TheVariants.{Whole, Partial, Unknown as Open}
use Rattle.glob_answers.specs.declared.comparison.Relation.{Relation}
use Rattle.glob_answers.specs.declared.comparison.Relation.TheVariants.{Equal, Within, Includes, Neither, Unknown}

-- each path of the domain that the first list matches is matched by the second
abbrev pub IsIncluded : List GlobValue → List GlobValue → Domain → Type 0
IsIncluded first second domain = (path : List ℕ) → IsIn domain path → IsTrue (some_match glob_matches first path) → IsTrue (some_match glob_matches second path)

-- some path of the domain is matched by the first list and not by the second
abbrev pub HasMore : List GlobValue → List GlobValue → Domain → Type 0
HasMore first second domain = (path : List ℕ) × IsIn domain path × IsTrue (some_match glob_matches first path) × IsFalse (some_match glob_matches second path)

-- each path of the domain is matched by both lists or by neither
abbrev pub AreEqual : List GlobValue → List GlobValue → Domain → Type 0
AreEqual first second domain = (path : List ℕ) → IsIn domain path → some_match glob_matches first path ≡ some_match glob_matches second path

-- The relation is that of the two lists. It is unknown only if some answer about a glob of either is.
abbrev pub TellsRelation : List GlobValue → List GlobValue → Domain → Comparison → Relation → Type 0
TellsRelation first second domain told Equal = AreEqual first second domain
TellsRelation first second domain told Within = IsIncluded first second domain × HasMore second first domain
TellsRelation first second domain told Includes = IsIncluded second first domain × HasMore first second domain
TellsRelation first second domain told Neither = HasMore first second domain × HasMore second first domain
TellsRelation first second domain told Unknown = Contains told.first.items Undecided ⊎ Contains told.second.items Undecided

-- For each glob there is an answer, which is right: the other globs cover it, or a shortest path that they miss.
abbrev pub TellsEach : List GlobValue → List GlobValue → Domain → ℕ → List Coverage → Type 0
TellsEach [] by domain limit [] = ⊤
TellsEach [] by domain limit (told ∷ each) = ⊥
TellsEach (glob ∷ globs) by domain limit [] = ⊥
TellsEach (glob ∷ globs) by domain limit (told ∷ each) = TellsCovering glob_matches glob by domain limit told × TellsEach globs by domain limit each

-- What is known of the list holds: the others include it, or it has more. It is unknown only if some answer is.
abbrev pub TellsInclusion : List GlobValue → List GlobValue → Domain → List Coverage → Inclusion → Type 0
TellsInclusion globs by domain each Whole = IsIncluded globs by domain
TellsInclusion globs by domain each Partial = HasMore globs by domain
TellsInclusion globs by domain each Open = Contains each Undecided

-- what is known of a list with one more glob, of which this is told
abbrev pub inclusion_after : Inclusion → Coverage → Inclusion
inclusion_after Whole Covered = Whole
inclusion_after Whole (Not path) = Partial
inclusion_after Whole Undecided = Open
inclusion_after Partial told = Partial
inclusion_after Open Covered = Open
inclusion_after Open (Not path) = Partial
inclusion_after Open Undecided = Open
