-- Many paths as bytes and their ends.
use Rattle.std.specs.Prelude.{ℕ, ◌+◌, ◌≤◌, List, [], ◌∷◌, flat_map, length, map, slice_range, ⊤}
use Rattle.globset_glob.specs.GlobMatches.{GlobValue}
use Rattle.globset.specs.Answer.{matching_indexes}

-- No end is below the end before it, where `start` comes before the first, nor above the number of bytes.
abbrev pub AreEnds : ℕ → ℕ → List ℕ → Type 0
AreEnds len start [] = ⊤
AreEnds len start (end ∷ ends) = (start ≤ end) × (end ≤ len) × AreEnds len end ends

-- The paths: each is the bytes from the end before it up to its own end, and the first begins at `start`.
abbrev pub paths_from : List ℕ → ℕ → List ℕ → List (List ℕ)
paths_from bytes start [] = []
paths_from bytes start (end ∷ ends) = slice_range bytes start end ∷ paths_from bytes end ends

-- 1 if there is an index, and else 0
abbrev pub one_if_any : List ℕ → ℕ
one_if_any [] = 0
one_if_any (index ∷ indexes) = 1

-- 1 if some glob matches the path in a set of these globs, and else 0
abbrev pub answer_byte : List GlobValue → List ℕ → ℕ
answer_byte globs path = one_if_any (matching_indexes globs path)

-- the answer of each path
abbrev pub answers_for : List GlobValue → List ℕ → ℕ → List ℕ → List ℕ
answers_for globs bytes start ends = map (answer_byte globs) (paths_from bytes start ends)

-- the indexes of the globs that match the paths, in a set of these globs: the first path's first
abbrev pub indexes_for : List GlobValue → List ℕ → ℕ → List ℕ → List ℕ
indexes_for globs bytes start ends = flat_map (matching_indexes globs) (paths_from bytes start ends)

-- the ends of each path's indexes among the indexes of all paths, after this number of earlier indexes
abbrev pub ends_among : List GlobValue → ℕ → List (List ℕ) → List ℕ
ends_among globs before [] = []
ends_among globs before (path ∷ paths) = let end = before + length (matching_indexes globs path) in end ∷ ends_among globs end paths

-- where the indexes of each path end in `indexes_for`
abbrev pub index_ends_for : List GlobValue → List ℕ → ℕ → List ℕ → List ℕ
index_ends_for globs bytes start ends = ends_among globs 0 (paths_from bytes start ends)

-- The indexes of the last path. If there is none, these other indexes.
abbrev pub last_indexes : List GlobValue → List ℕ → List (List ℕ) → List ℕ
last_indexes globs others [] = others
last_indexes globs others (path ∷ paths) = last_indexes globs (matching_indexes globs path) paths

-- the same of paths by their ends
abbrev pub last_indexes_for : List GlobValue → List ℕ → List ℕ → ℕ → List ℕ → List ℕ
last_indexes_for globs others bytes start ends = last_indexes globs others (paths_from bytes start ends)
