-- Items of a list, globs or patterns of ignore files, that never decide. `matches` says which paths an item matches.
use Rattle.std.specs.Prelude.{◌≢◌, ℕ, ◌+◌, ◌-◌, ◌<◌, Bool, List, [], ◌∷◌, length, Contains, Option, Some, None, slice_get}
use Rattle.std.specs.List.{range_with_len}
use Rattle.glob_relations.specs.Answers.{IsCovered, IsMissed, TellsCovering}
use Rattle.glob_relations.specs.Shortest.{IsShortest}
use Rattle.glob_relations.specs.declared.domain.Domain.{Domain}
use Rattle.glob_relations.specs.declared.relations.Coverage.TheVariants.{Unknown}
use Rattle.glob_relations.specs.declared.unused.Decides.{Decides}
use Rattle.glob_relations.specs.declared.unused.Decides.TheVariants.{First, Last}
use Rattle.glob_relations.specs.declared.unused.Reachability.{Reachability}
use Rattle.glob_relations.specs.declared.unused.Reachability.TheVariants.{Decides as DecidesFor, Never, Unknown as Undecided}

-- the items, and in front of them the item of the option, if it has one
abbrev pub with_item : {A : Type 0} → Option A → List A → List A
with_item None xs = xs
with_item (Some x) xs = x ∷ xs

-- the items of a list at the indexes
abbrev pub items_at : {A : Type 0} → List A → List ℕ → List A
items_at xs [] = []
items_at xs (k ∷ ks) = with_item (slice_get xs k) (items_at xs ks)

-- The rivals of the glob of the index i, in a list of `count` globs: the indexes of the globs that decide instead of it where
-- they match, too. They come before it if the first match decides, and after it if the last match decides.
abbrev pub rivals : Decides → ℕ → ℕ → List ℕ
rivals First i count = range_with_len 0 i
rivals Last i count = range_with_len (i + 1) (count - (i + 1))

-- The indexes of the set are those of rivals, and their items cover the item. Without any of them they do not cover it. The set
-- has several indexes only if no other rival covers it alone.
pub record IsLeastCover {A : Type 0} (matches : A → List ℕ → Bool) (xs : List A) (x : A) (IsRival : ℕ → Type 0) (domain : Domain) (set : List ℕ) : Type 0 where
  pub within : (k : ℕ) → Contains set k → IsRival k
  pub covers : IsCovered matches x (items_at xs set) domain
  pub least : (k : ℕ) → Contains set k → (rest : List ℕ) → ((j : ℕ) → Contains rest j → Contains set j × (j ≢ k)) → IsCovered matches x (items_at xs rest) domain → ⊥
  pub single : 1 < length set → (k : ℕ) → IsRival k → IsCovered matches x (items_at xs (k ∷ [])) domain → ⊥

-- The answer is right, where the others are the indexes of the rivals: the path is a shortest path that the item matches and none
-- of its rivals does; or the set is a least cover by rivals; or paths lead to more than `limit` different rows of an automaton for
-- the item and some of its rivals.
abbrev pub TellsReachability : {A : Type 0} → (A → List ℕ → Bool) → List A → A → List ℕ → Domain → ℕ → Reachability → Type 0
TellsReachability matches xs x others domain limit (DecidesFor path) = IsShortest (IsMissed matches x (items_at xs others) domain) path.items
TellsReachability matches xs x others domain limit (Never set) = IsLeastCover matches xs x (Contains others) domain set.items
TellsReachability matches xs x others domain limit Undecided = (by : List ℕ) × ((k : ℕ) → Contains by k → Contains others k) × TellsCovering matches x (items_at xs by) domain limit Unknown
