-- Where the rows of each bucket start.
use Rattle.std.specs.Prelude.{ℕ, ◌+◌, ◌<◌, ◌≤◌, ◌/◌, ◌^◌, cond, nat_lt, List, length, map, slice_index, slice_range}
use Rattle.glob_path.specs.declared.rows.Row.{Row}

-- the b-th start is the number of buckets below b, which stand in front
abbrev pub IsStart : List ℕ → ℕ → ℕ → Type 0
IsStart buckets b start = ((k : ℕ) → k < start → k < length buckets → slice_index buckets k < b) × ((k : ℕ) → start ≤ k → k < length buckets → b ≤ slice_index buckets k)

abbrev pub AreStarts : List ℕ → List ℕ → Type 0
AreStarts buckets starts = (b : ℕ) → b < length starts → IsStart buckets b (slice_index starts b)

-- the hashes that rows keep
abbrev pub hashes_of : List Row → List ℕ
hashes_of rows = map (λ r. r.hash) rows

-- the buckets of rows: the upper bits of their hashes
abbrev pub buckets_of : ℕ → List Row → List ℕ
buckets_of shift rows = map (λ r. r.hash / 2 ^ shift) rows

-- the starts of the rows' buckets
pub record HasStarts (rows : List Row) (shift : ℕ) (starts : List ℕ) : Type 0 where
  pub at : AreStarts (buckets_of shift rows) starts

-- the rows of a bucket; all rows, if the bucket has no start and end
unfoldable pub rows_near : List Row → List ℕ → ℕ → List Row
rows_near rows starts b = cond (nat_lt (b + 1) (length starts)) (slice_range rows (slice_index starts b) (slice_index starts (b + 1))) rows
