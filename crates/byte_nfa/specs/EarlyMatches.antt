-- States that decide an index: with any bytes after it, the text leads to an end of the index, and to no other end.
use Rattle.std.specs.Prelude.{◌≡◌, ℕ, ◌+◌, ◌*◌, ◌/◌, ◌<◌, ◌⊎◌, List, [], ◌∷◌, ◌++◌, length}
use Rattle.bit_sets.specs.declared.byte_set.ByteSet.{ByteSet}
use Rattle.bit_sets.specs.Bytes.{HasEvery}
use Rattle.byte_nfa.specs.Steps.{State, loop_state, match_state, state, NfaValue}

-- The state s stays on every byte, and leads to a single state, which is an end of the index k or decides k itself, as the first
-- of several stars does.
pub data Decides (a : List State) : ℕ → ℕ → Type 0 where
  before_end : (s k t : ℕ) (w : ByteSet) → state a s ≡ loop_state w (t ∷ []) → HasEvery w → state a t ≡ match_state k → Decides a s k
  before_other : (s k t : ℕ) (w : ByteSet) → state a s ≡ loop_state w (t ∷ []) → HasEvery w → Decides a t k → Decides a s k

-- st is an end of the index n + k if the state s decides k, and otherwise the state s
abbrev pub IsAtEarlyMatch : List State → ℕ → ℕ → State → Type 0
IsAtEarlyMatch a n s st = ((k : ℕ) × Decides a s k × (st ≡ match_state (n + k))) ⊎ (((k : ℕ) → Decides a s k → ⊥) × (st ≡ state a s))

-- the new automaton is the old automaton with an end instead of each state that decides an index; the indexes of these ends are
-- above the old indexes
pub record EndsAtEarlyMatches (old new : NfaValue) : Type 0 where
  pub below : (s k : ℕ) → state old.states s ≡ match_state k → k < old.index_count
  pub states : (s : ℕ) → IsAtEarlyMatch old.states old.index_count s (state new.states s)
  pub len : length new.states ≡ length old.states
  pub starts : new.starts ≡ old.starts
  pub index_count : new.index_count ≡ old.index_count * 2

-- ends of an index k + half say that k is decided where they are reached
abbrev pub half : NfaValue → ℕ
half m = m.index_count / 2

-- a text leads to an end of the index k, or its beginning to the end that says that k is decided
abbrev pub FindsBy : ℕ → (List ℕ → ℕ → Type 0) → List ℕ → ℕ → Type 0
FindsBy n P y k = (k < n) × (P y k ⊎ ((p : List ℕ) × (q : List ℕ) × (y ≡ p ++ q) × P p (n + k)))
