-- Bytes that states read alike.
use Rattle.std.specs.Prelude.{◌≡◌, ℕ, ◌+◌, ◌<◌, ◌||◌, Bool, false, List}
use Rattle.bit_sets.specs.Bytes.{has_byte, differ}
use Rattle.bit_sets.specs.declared.byte_set.ByteSet.{ByteSet}
use Rattle.byte_nfa.specs.Steps.{State, bytes_state, union_state, loop_state, match_state, state}

-- the state reads the byte, or stays on it
abbrev pub reads_byte : State → ℕ → Bool
reads_byte (bytes_state w t) c = has_byte w c
reads_byte (union_state us) c = false
reads_byte (loop_state w us) c = has_byte w c
reads_byte (match_state k) c = false

-- the new set has also each byte b for which the state reads exactly one of b and b + 1
abbrev pub HasAlsoBoundaries : State → ByteSet → ByteSet → Type 0
HasAlsoBoundaries st old new = (b : ℕ) → b + 1 < 256 → has_byte new b ≡ (differ (reads_byte st b) (reads_byte st (b + 1)) || has_byte old b)

-- each state reads both bytes or neither
abbrev pub AreEquivalent : List State → ℕ → ℕ → Type 0
AreEquivalent a b c = (s : ℕ) → reads_byte (state a s) b ≡ reads_byte (state a s) c
