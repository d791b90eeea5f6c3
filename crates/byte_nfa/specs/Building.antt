-- The effect of a push on an automaton.
use Rattle.std.specs.Prelude.{◌≡◌, ℕ, ◌+◌, ◌<◌, ◌≤◌, List, [], ◌∷◌, ◌++◌, length}
use Rattle.byte_nfa.specs.Steps.{State, state, NfaValue}

-- two lists have the same states from low on, below high
abbrev pub Agrees : List State → List State → ℕ → ℕ → Type 0
Agrees a b low high = (s : ℕ) → low ≤ s → s < high → state a s ≡ state b s

-- the old states are as they were
abbrev pub Keeps : List State → List State → Type 0
Keeps old new = (length old ≤ length new) × Agrees new old 0 (length old)

-- s is the state st, in each list that agrees with the new list where states were added
abbrev pub Adds : List State → List State → ℕ → State → Type 0
Adds old new s st = (a : List State) (low : ℕ) → low ≤ length old → Agrees a new low (length new) → state a s ≡ st

-- states were added, and nothing else changed
pub record Grows (old new : NfaValue) : Type 0 where
  pub keeps : Keeps old.states new.states
  pub starts : new.starts ≡ old.starts
  pub index_count : new.index_count ≡ old.index_count

-- the state st was pushed, and has the number s; `keeps` and `adds` follow from `states`
pub record Pushes (old new : NfaValue) (s : ℕ) (st : State) : Type 0 where
  pub at : s ≡ length old.states
  pub states : new.states ≡ old.states ++ st ∷ []
  pub starts : new.starts ≡ old.starts
  pub index_count : new.index_count ≡ old.index_count
  pub len : length new.states ≡ length old.states + 1
  pub keeps : Keeps old.states new.states
  pub adds : Adds old.states new.states s st
