-- Laws of the indexes that sets return.
use Rattle.std.specs.Prelude.{◌≡◌, ◌≢◌, ℕ, ◌<◌, ◌↔◌, false, if◌then◌else◌, List, [], ◌∷◌, ◌++◌, length, Contains, slice_get}
use Rattle.globset_glob.specs.GlobMatches.{GlobValue, glob_matches}
use Rattle.globset_glob.specs.Texts.{AllBytes}
use Rattle.glob_path.specs.Below.{path_below}
use Rattle.set_matcher.specs.Excluded.{excluded, is_reported}
use Rattle.set_matcher.specs.Answer.{matching_indexes}
use Rattle.set_matcher.specs.Below.{MatchesBelow}

-- Another glob after the others: if it is reported, its index is added at the end, and otherwise nothing changes.
abbrev pub AddKeeps : Type 0
AddKeeps = (globs : List GlobValue) (g : GlobValue) (path : List ℕ)
    → matching_indexes (globs ++ g ∷ []) path ≡ matching_indexes globs path ++ (if is_reported g path then length globs ∷ [] else [])

-- The second list has the globs of the first in another order: the glob at index i of the first list is at index `to i` of the
-- second. The renaming is a bijection: `to` takes the indexes of the first list to indexes of the second, no two of them to the
-- same index, and leaves none of the second out. So the lists are equally long, and a glob that is in the first list several
-- times is in the second as often.
pub record IsReordered (first second : List GlobValue) (to : ℕ → ℕ) : Type 0 where
  pub same_glob : (i : ℕ) → i < length first → slice_get second (to i) ≡ slice_get first i
  pub in_range : (i : ℕ) → i < length first → to i < length second
  pub one_to_one : (i j : ℕ) → i < length first → j < length first → to i ≡ to j → i ≡ j
  pub onto : (j : ℕ) → j < length second → (i : ℕ) × (i < length first) × (to i ≡ j)

-- In another order, the indexes are renamed: j is an index of the second list's answer exactly if it is `to i` for an index i of
-- the first list's answer.
abbrev pub OrderRenames : Type 0
OrderRenames = (first second : List GlobValue) (to : ℕ → ℕ) (path : List ℕ) → IsReordered first second to
    → (j : ℕ) → Contains (matching_indexes second path) j ↔ ((i : ℕ) × Contains (matching_indexes first path) i × (to i ≡ j))

-- A set of a single glob that is not excluded: the indexes are [0] on the paths that the glob matches, and none on all others.
abbrev pub OneGlobSet : Type 0
OneGlobSet = (g : GlobValue) (path : List ℕ) → excluded g ≡ false → matching_indexes (g ∷ []) path ≡ (if glob_matches g path then 0 ∷ [] else [])

-- If a set matches a path below a folder, it matches below the folder.
abbrev pub BelowHasPaths : Type 0
BelowHasPaths = (globs : List GlobValue) (folder rest : List ℕ) → AllBytes rest → matching_indexes globs (path_below folder rest) ≢ [] → MatchesBelow globs folder

-- If a set matches nothing below a folder, it matches nothing below each folder below that.
abbrev pub BelowEnds : Type 0
BelowEnds = (globs : List GlobValue) (folder rest : List ℕ) → AllBytes rest → (MatchesBelow globs folder → ⊥) → MatchesBelow globs (path_below folder rest) → ⊥
