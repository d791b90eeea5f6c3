-- Rules of an ignore file that never decide. Each rule is given by its pattern, in the order of the lines, and named by its index.
use Rattle.std.specs.Prelude.{◌≡◌, ℕ, ◌<◌, ◌⊎◌, Bool, true, not, ◌||◌, List, ◌∷◌, ◌++◌, Contains, Some, slice_get, IsTrue, IsFalse}
use Rattle.byte_nfa.specs.Steps.{NfaValue}
use Rattle.ignore_pattern.specs.Patterns.{Pattern, pattern_matches, applies}
use Rattle.glob_relations.specs.Answers.{TellsCovering}
use Rattle.glob_relations.specs.Domains.{IsIn}
use Rattle.glob_relations.specs.Shortest.{IsShortest}
use Rattle.glob_relations.specs.Unused.{IsLeastCover, items_at}
use Rattle.glob_relations.specs.declared.domain.Domain.{Domain}
use Rattle.glob_relations.specs.declared.relations.Coverage.TheVariants.{Unknown}
use Rattle.glob_relations.specs.declared.rules.RuleReachability.{RuleReachability}
use Rattle.glob_relations.specs.declared.rules.RuleReachability.TheVariants.{Decides as DecidesFor, Never, Hidden, Unknown as Undecided}
use Rattle.glob_relations.specs.inner.Automata.{IsFor, indexed_rules}
use Rattle.glob_relations.specs.inner.Rows.{HasMoreRows}

-- The rule of the index i, with the pattern p, decides about the path alone, of a folder or of something else: it applies, and no
-- later rule does.
abbrev pub DecidesAlone : Bool → List Pattern → ℕ → Pattern → List ℕ → Bool → Type 0
DecidesAlone ignore_case ps i p path is_folder = IsTrue (applies ignore_case p path is_folder)
    × ((k : ℕ) (q : Pattern) → i < k → slice_get ps k ≡ Some q → IsTrue (applies ignore_case q path is_folder) → ⊥)

-- the path is in the domain, and the rule decides about it alone, if it is that of a folder, or if it is that of something else
abbrev pub IsDecidedAlone : Bool → List Pattern → ℕ → Pattern → Domain → List ℕ → Type 0
IsDecidedAlone ignore_case ps i p domain path = IsIn domain path × ((is_folder : Bool) × DecidesAlone ignore_case ps i p path is_folder)

-- The rule of the index k ignores the folder, whatever the folders above it: it decides about it alone, and is not negated.
abbrev pub IgnoresFolder : Bool → List Pattern → List ℕ → ℕ → Type 0
IgnoresFolder ignore_case ps folder k = (q : Pattern) × (slice_get ps k ≡ Some q) × IsFalse q.negated × DecidesAlone ignore_case ps k q folder true

-- The path lies below a folder that the rule of the index k ignores. Folders are named without a `/` at their end.
abbrev pub IsHiddenBy : Bool → List Pattern → List ℕ → ℕ → Type 0
IsHiddenBy ignore_case ps path k = (folder : List ℕ) × (rest : List ℕ) × (path ≡ folder ++ 47 ∷ rest) × IgnoresFolder ignore_case ps folder k

-- The path lies below an ignored folder: then no rule that applies to the path decides about it.
abbrev pub IsHidden : Bool → List Pattern → List ℕ → Type 0
IsHidden ignore_case ps path = (k : ℕ) × IsHiddenBy ignore_case ps path k

-- the rule decides about the path by git's rule: alone, and no folder above it is ignored
abbrev pub IsDecided : Bool → List Pattern → ℕ → Pattern → Domain → List ℕ → Type 0
IsDecided ignore_case ps i p domain path = IsDecidedAlone ignore_case ps i p domain path × (IsHidden ignore_case ps path → ⊥)

-- The rule decides about no path by git's rule, but about some alone. The rule of the index k ignores a folder above a shortest
-- one.
pub record IsRuleHidden (ignore_case : Bool) (ps : List Pattern) (i : ℕ) (p : Pattern) (domain : Domain) (k : ℕ) : Type 0 where
  pub never : (path : List ℕ) → IsDecided ignore_case ps i p domain path → ⊥
  pub alone : (path : List ℕ) × IsShortest (IsDecidedAlone ignore_case ps i p domain) path × IsHiddenBy ignore_case ps path k

-- the rule of the index k comes later, and applies to folders and to others wherever the rule of the index i does
abbrev pub IsRival : List Pattern → ℕ → Pattern → ℕ → Type 0
IsRival ps i p k = (i < k) × ((q : Pattern) × (slice_get ps k ≡ Some q) × IsTrue (p.folders_only || not q.folders_only))

-- The rule decides about no path alone, and the set is a least cover of it by rivals.
abbrev pub NeverDecides : Bool → List Pattern → ℕ → Pattern → Domain → List ℕ → Type 0
NeverDecides ignore_case ps i p domain set = ((path : List ℕ) → IsDecidedAlone ignore_case ps i p domain path → ⊥) × IsLeastCover (pattern_matches ignore_case) ps p (IsRival ps i p) domain set

-- paths lead to more than `limit` different rows of an automaton for the rule and some of its rivals, or for these and all rules
abbrev pub HasTooMany : Bool → List Pattern → ℕ → Pattern → Domain → ℕ → Type 0
HasTooMany ignore_case ps i p domain limit = (by : List ℕ) × ((k : ℕ) → Contains by k → IsRival ps i p k)
    × (TellsCovering (pattern_matches ignore_case) p (items_at ps by) domain limit Unknown ⊎ ((m : NfaValue) × IsFor (pattern_matches ignore_case) (indexed_rules p (items_at ps by) ps) m × HasMoreRows m domain limit))

-- The answer is right: the path is a shortest path about which the rule decides; or the rule never decides, and the set is a
-- least cover by rivals; or the rule is hidden; or there are more rows than the limit.
abbrev pub TellsRule : Bool → List Pattern → ℕ → Pattern → Domain → ℕ → RuleReachability → Type 0
TellsRule ignore_case ps i p domain limit (DecidesFor path) = IsShortest (IsDecided ignore_case ps i p domain) path.items
TellsRule ignore_case ps i p domain limit (Never set) = NeverDecides ignore_case ps i p domain set.items
TellsRule ignore_case ps i p domain limit (Hidden k) = IsRuleHidden ignore_case ps i p domain k
TellsRule ignore_case ps i p domain limit Undecided = HasTooMany ignore_case ps i p domain limit
