-- States over bytes, and the texts that lead from a state to an end.
use Rattle.std.specs.Prelude.{◌≡◌, ℕ, ◌⊎◌, List, [], ◌∷◌, slice_index_or, IsTrue}
use Rattle.bit_sets.specs.declared.byte_set.ByteSet.{ByteSet}
use Rattle.bit_sets.specs.Bytes.{has_byte}

-- A state reads a byte of a set and leads to a single state; or leads without a byte to any of some states; or does that and also
-- stays on each byte of a set. An end names an index.
pub data State : Type 0 where
  bytes_state : ByteSet → ℕ → State
  union_state : List ℕ → State
  loop_state : ByteSet → List ℕ → State
  match_state : ℕ → State

-- the state of the number s; a number past the last leads nowhere
abbrev pub state : List State → ℕ → State
state a s = slice_index_or a s (union_state [])

-- the list has the number t
abbrev pub HasNumber : ℕ → List ℕ → Type 0
HasNumber t [] = ⊥
HasNumber t (x ∷ xs) = (t ≡ x) ⊎ HasNumber t xs

-- from the state s the text leads to an end of the index k
pub data Accepts (a : List State) (k : ℕ) : ℕ → List ℕ → Type 0 where
  ends : (s : ℕ) → state a s ≡ match_state k → Accepts a k s []
  by_byte : (s t c : ℕ) (y : List ℕ) (w : ByteSet) → state a s ≡ bytes_state w t → IsTrue (has_byte w c) → Accepts a k t y → Accepts a k s (c ∷ y)
  by_skip : (s t : ℕ) (y ts : List ℕ) → state a s ≡ union_state ts → HasNumber t ts → Accepts a k t y → Accepts a k s y
  by_out : (s t : ℕ) (y : List ℕ) (w : ByteSet) (ts : List ℕ) → state a s ≡ loop_state w ts → HasNumber t ts → Accepts a k t y → Accepts a k s y
  by_stay : (s c : ℕ) (y : List ℕ) (w : ByteSet) (ts : List ℕ) → state a s ≡ loop_state w ts → IsTrue (has_byte w c) → Accepts a k s y → Accepts a k s (c ∷ y)

-- the value of an automaton: its states, those that it begins in, and a number that the index of each end is below
pub record NfaValue : Type 0 where
  pub states : List State
  pub starts : List ℕ
  pub index_count : ℕ

-- from some start the text leads to an end of the index k
abbrev pub IsReached : NfaValue → List ℕ → ℕ → Type 0
IsReached m y k = (s : ℕ) × HasNumber s m.starts × Accepts m.states k s y
