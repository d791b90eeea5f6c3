-- Chunks: states of the same kind with the same bytes.
use Rattle.std.specs.Prelude.{◌≡◌, ℕ, ◌<◌, ◌≤◌, List, [], ◌∷◌, slice_index}
use Rattle.byte_nfa.specs.Building.{Pushes}
use Rattle.byte_nfa.specs.Steps.{State, bytes_state, union_state, loop_state, match_state, state, NfaValue, HasNumber}
use Rattle.engine.specs.declared.sharing.KnownLists.{KnownLists}
use Rattle.engine.specs.inner.Known.{IsKnown}

-- the state, with the number n for the state that it goes on to
abbrev pub with_next : State → ℕ → State
with_next (bytes_state w t) n = bytes_state w n
with_next (union_state us) n = union_state us
with_next (loop_state w us) n = loop_state w (n ∷ [])
with_next (match_state k) n = match_state k

-- the states of the list from the place low on, below high, are st except for their successors, which are exactly the numbers of
-- nexts
pub record IsChunk (a : List State) (l : List ℕ) (low high : ℕ) (st : State) (nexts : List ℕ) : Type 0 where
  pub goes : (i : ℕ) → low ≤ i → i < high → (n : ℕ) × HasNumber n nexts × (state a (slice_index l i) ≡ with_next st n)
  pub comes : (n : ℕ) → HasNumber n nexts → (i : ℕ) × (low ≤ i) × (i < high) × (state a (slice_index l i) ≡ with_next st n)

-- the state u was pushed, which is st but goes on to the state of the list nexts; an end goes on to none, and st is no union
abbrev pub IsPushedFor : NfaValue → NfaValue → KnownLists → State → List ℕ → ℕ → Type 0
IsPushedFor old new lists (bytes_state w t) nexts u = (n : ℕ) × IsKnown lists nexts n × Pushes old new u (bytes_state w n)
IsPushedFor old new lists (union_state us) nexts u = ⊥
IsPushedFor old new lists (loop_state w us) nexts u = (n : ℕ) × IsKnown lists nexts n × Pushes old new u (loop_state w (n ∷ []))
IsPushedFor old new lists (match_state k) nexts u = Pushes old new u (match_state k)
