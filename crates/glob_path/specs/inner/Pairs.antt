-- Keys as parts of a list of bytes, and the entries of pairs of such a key and an index.
use Rattle.std.specs.Prelude.{ℕ, ◌≡◌, ◌≤◌, ◌/◌, ◌^◌, Bool, List, [], length, map, slice_index_or, slice_range}
use Rattle.std.specs.declared.cmp.Ordering.{Ordering}
use Rattle.std.specs.Cmp.Lexicographic.{slice_cmp}
use Rattle.std.specs.Hash.FoldHasher as folding
use Rattle.std.specs.Ordering.{nat_cmp, ordering_then, is_lt}
use Rattle.glob_path.specs.Entries.{Entry, entry}
use Rattle.glob_path.specs.declared.pairs.Pair.{Pair}

-- the key of a pair
abbrev pub pair_key : List ℕ → Pair → List ℕ
pair_key bytes p = slice_range bytes p.start p.end

abbrev pub pair_entry : List ℕ → Pair → Entry
pair_entry bytes p = entry (pair_key bytes p) p.index

-- the entries that pairs stand for
abbrev pub entries_of : List ℕ → List Pair → List Entry
entries_of bytes ps = map (pair_entry bytes) ps

-- the key of an entry, by its position
abbrev pub key_at : List Entry → ℕ → List ℕ
key_at entries at = (slice_index_or entries at (entry [] 0)).key

-- the upper half of a key's hash
unfoldable pub hash_of : List ℕ → ℕ
hash_of key = folding.finish (folding.write folding.initial key) / 2 ^ 32

-- the order of hashes, and of keys under the same hash
abbrev pub hashed_order : ℕ → List ℕ → ℕ → List ℕ → Ordering
hashed_order g x h y = ordering_then (nat_cmp g h) (slice_cmp nat_cmp x y)

-- the order of keys
abbrev pub key_order : List ℕ → List ℕ → Ordering
key_order x y = hashed_order (hash_of x) x (hash_of y) y

-- the pair's key lies within the bytes, and its hash is the key's
abbrev pub IsKept : List ℕ → Pair → Type 0
IsKept bytes p = (p.end ≤ length bytes) × (p.hash ≡ hash_of (pair_key bytes p))

-- whether a pair comes before another by the hashes that they hold
abbrev pub pair_before : List ℕ → Pair → Pair → Bool
pair_before bytes p q = is_lt (hashed_order p.hash (pair_key bytes p) q.hash (pair_key bytes q))

-- whether a pair comes before another
abbrev pub pair_below : List ℕ → Pair → Pair → Bool
pair_below bytes p q = is_lt (key_order (pair_key bytes p) (pair_key bytes q))
