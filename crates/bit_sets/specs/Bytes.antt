-- Sets of bytes.
use Rattle.std.specs.Prelude.{◌≡◌, ℕ, ◌<◌, Bool, not, true, false, List, [], slice_index_or, IsTrue}
use Rattle.bit_sets.specs.Bits.{bit_of}
use Rattle.bit_sets.specs.declared.byte_set.ByteSet.{ByteSet}

-- the set has the byte c
abbrev pub has_byte : ByteSet → ℕ → Bool
has_byte set c = bit_of set.words c

-- the set has the bytes that pass the test
abbrev pub IsSetOf : (ℕ → Bool) → ByteSet → Type 0
IsSetOf test set = (c : ℕ) → c < 256 → has_byte set c ≡ test c

-- the set of no byte
abbrev pub no_bytes : ByteSet
no_bytes = record { words = [] }

-- the set with the number n; past the last it has no byte
abbrev pub set_at : List ByteSet → ℕ → ByteSet
set_at sets n = slice_index_or sets n no_bytes

-- the set has every byte
abbrev pub HasEvery : ByteSet → Type 0
HasEvery set = (c : ℕ) → c < 256 → IsTrue (has_byte set c)

-- exactly one of two tests passes
abbrev pub differ : Bool → Bool → Bool
differ true q = not q
differ false q = q
