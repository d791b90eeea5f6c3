-- The table that finds the row of a list.
use Rattle.std.specs.Prelude.{◌≡◌, ℕ, ◌+◌, ◌%◌, ◌^◌, ◌<◌, List, length, slice_index}
use Rattle.std.specs.List.Sorted.{IsStrictlyIncreasing}
use Rattle.lazy_dfa.specs.inner.Hashes.{list_hash}
use Rattle.lazy_dfa.specs.inner.Lists.{list_at}

-- in how many places a list is looked for
abbrev pub probes : ℕ
probes = 64

-- the place that is looked at after so many others, in a table of so many places
abbrev pub nth_place : ℕ → ℕ → ℕ → ℕ
nth_place hash probe count = (hash + probe) % 2 ^ 64 % count

-- the number of a row, plus 1, stands at a place for the hash, and each place that is looked at before it holds a row
pub record IsFound (table : List ℕ) (hash row : ℕ) : Type 0 where
  pub probe : ℕ
  pub near : probe < probes
  pub there : slice_index table (nth_place hash probe (length table)) ≡ row + 1
  pub before : (p : ℕ) → p < probe → 0 < slice_index table (nth_place hash p (length table))

-- a place for the hash holds no row, and each place that is looked at before it holds one
pub record IsFree (table : List ℕ) (hash place : ℕ) : Type 0 where
  pub probe : ℕ
  pub near : probe < probes
  pub is : place ≡ nth_place hash probe (length table)
  pub within : place < length table
  pub none : slice_index table place ≡ 0
  pub before : (p : ℕ) → p < probe → 0 < slice_index table (nth_place hash p (length table))

-- the list of a row, by the places where lists stand
abbrev pub nth_list : List ℕ → List ℕ → ℕ → List ℕ
nth_list starts lists i = list_at lists (slice_index starts i)

-- each of the first n rows is found by its list
abbrev pub AreFound : List ℕ → ℕ → List ℕ → List ℕ → ℕ → Type 0
AreFound table seed starts lists n = (i : ℕ) → i < n → IsFound table (list_hash seed (nth_list starts lists i)) i

-- each row is found by its list, which ascends, and no two rows have one list: so no two have one set of states
pub record IsIndexed (table : List ℕ) (seed : ℕ) (starts lists : List ℕ) : Type 0 where
  pub some : 0 < length table
  pub found : AreFound table seed starts lists (length starts)
  pub ordered : (i : ℕ) → i < length starts → IsStrictlyIncreasing (nth_list starts lists i)
  pub distinct : (i j : ℕ) → i < j → j < length starts → nth_list starts lists i ≡ nth_list starts lists j → ⊥
