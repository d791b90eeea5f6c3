-- Sets of indexes.
use Rattle.std.specs.Prelude.{ℕ, ◌*◌, ◌<◌, ◌⊎◌, ◌++◌, ◌↔◌, Bool, List, length, slice_index, IsTrue, Contains}
use Rattle.bit_sets.specs.Bits.{bit_of}
use Rattle.bit_sets.specs.declared.index_set.IndexSet.{IndexSet}

-- the words of a set: the first, and then the rest
abbrev pub words_of : IndexSet → List ℕ
words_of set = set.first ++ set.rest.items

-- the set has the index k
abbrev pub has_index : IndexSet → ℕ → Bool
has_index set k = bit_of (words_of set) k

-- a set has room for the indexes below this
abbrev pub index_capacity : IndexSet → ℕ
index_capacity set = 64 * length (words_of set)

-- the new set has the old set's members, and those of the indexes that the old set has room for
abbrev pub HasAlso : IndexSet → IndexSet → List ℕ → Type 0
HasAlso old new indexes = (k : ℕ) → IsTrue (has_index new k) ↔ ((Contains indexes k × (k < index_capacity old)) ⊎ IsTrue (has_index old k))

-- the first `count` indexes of the list are in the set
abbrev pub AreFound : List ℕ → ℕ → IndexSet → Type 0
AreFound indexes count found = (j : ℕ) → j < count → j < length indexes → IsTrue (has_index found (slice_index indexes j))
