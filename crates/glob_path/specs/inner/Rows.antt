-- The rows of a table: a key, and where its indexes are.
use Rattle.std.specs.Prelude.{◌≡◌, ℕ, ◌+◌, ◌<◌, ◌≤◌, Bool, false, List, [], slice_range, slice_index_or, length}
use Rattle.std.specs.List.{All}
use Rattle.std.specs.List.Sorted.{IsSortedBy}
use Rattle.std.specs.Ordering.{is_lt}
use Rattle.std.specs.Str.{bytes_eq}
use Rattle.glob_path.specs.Entries.{Entry, indexes_under}
use Rattle.glob_path.specs.inner.Pairs.{pair_key, key_order, hash_of}
use Rattle.glob_path.specs.declared.pairs.Pair.{Pair}
use Rattle.glob_path.specs.declared.rows.Row.{Row}

-- the key of a row
abbrev pub row_key : List ℕ → Row → List ℕ
row_key bytes r = slice_range bytes r.start r.end

-- the row keeps the hash of its key
abbrev pub IsHashed : List ℕ → Row → Type 0
IsHashed bytes r = r.hash ≡ hash_of (row_key bytes r)

-- whether a row comes before another
abbrev pub row_below : List ℕ → Row → Row → Bool
row_below bytes r s = is_lt (key_order (row_key bytes r) (row_key bytes s))

-- the row has the indexes that the entries have under its key
abbrev pub IsListed : List ℕ → List ℕ → List Entry → Row → Type 0
IsListed bytes indexes entries r = slice_range indexes r.from r.to ≡ indexes_under entries (row_key bytes r)

-- no row has this key
abbrev pub HasNoRow : List ℕ → List Row → List ℕ → Type 0
HasNoRow bytes rows q = All (λ r. bytes_eq (row_key bytes r) q ≡ false) rows

-- the rows have the entries' keys, each with its indexes, and are in order
pub record HasRows (bytes : List ℕ) (rows : List Row) (indexes : List ℕ) (entries : List Entry) : Type 0 where
  pub listed : All (IsListed bytes indexes entries) rows
  pub missing : (q : List ℕ) → HasNoRow bytes rows q → indexes_under entries q ≡ []
  pub hashed : All (IsHashed bytes) rows
  pub sorted : IsSortedBy (row_below bytes) rows
  pub few : length rows ≤ length indexes

-- the key of the pair at an index
abbrev pub key_at : List ℕ → List Pair → ℕ → List ℕ
key_at bytes ps k = pair_key bytes (slice_index_or ps k (record { hash = 0; start = 0; end = 0; index = 0 }))

-- the pair at an index and the next pair have the same key
abbrev pub IsSameKey : List ℕ → List Pair → ℕ → Type 0
IsSameKey bytes ps k = (k + 1 < length ps) × (key_at bytes ps (k + 1) ≡ key_at bytes ps k)

-- it has another, or there is none
abbrev pub IsOtherKey : List ℕ → List Pair → ℕ → Type 0
IsOtherKey bytes ps k = k + 1 < length ps → ¬ (key_at bytes ps (k + 1) ≡ key_at bytes ps k)
