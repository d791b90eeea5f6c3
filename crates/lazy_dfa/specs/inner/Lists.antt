-- Lists of indexes, in order in a list of numbers.
use Rattle.std.specs.Prelude.{◌≡◌, ℕ, ◌+◌, ◌<◌, ◌≤◌, ◌↔◌, IsTrue, List, length, take, drop, slice_index}
use Rattle.bit_sets.specs.Numbers.{has_number}

-- a list stands as its length and then its indexes
abbrev pub list_at : List ℕ → ℕ → List ℕ
list_at numbers place = take (slice_index numbers place) (drop (place + 1) numbers)

-- a list stands there, of indexes below n
pub record IsList (numbers : List ℕ) (n place : ℕ) : Type 0 where
  pub room : place + 1 + slice_index numbers place ≤ length numbers
  pub below : (x : ℕ) → x < length (list_at numbers place) → slice_index (list_at numbers place) x < n

-- the list of the indexes below n for which a fact holds
pub record IsListOf (numbers : List ℕ) (n place : ℕ) (P : ℕ → Type 0) : Type 0 where
  pub list : IsList numbers n place
  pub has : (k : ℕ) → IsTrue (has_number k (list_at numbers place)) ↔ ((k < n) × P k)

-- lists stay as they are
abbrev pub KeepsLists : List ℕ → List ℕ → Type 0
KeepsLists old new = (length old ≤ length new)
    × ((n place : ℕ) → IsList old n place → IsList new n place × (list_at new place ≡ list_at old place) × (slice_index new place ≡ slice_index old place))
