-- Lists of states of the old automaton, and the new states that stand for them.
use Rattle.std.specs.Prelude.{ℕ, ◌<◌, ◌↔◌, List, slice_index}
use Rattle.byte_nfa.specs.Building.{Agrees}
use Rattle.byte_nfa.specs.Runs.{size}
use Rattle.byte_nfa.specs.Steps.{State, NfaValue, HasNumber, Accepts}

-- from some state of the list the text leads to an end of the index k
abbrev pub AcceptsSome : List State → List ℕ → List ℕ → ℕ → Type 0
AcceptsSome a l y k = (s : ℕ) × HasNumber s l × Accepts a k s y

-- both lists lead each text to the same ends
abbrev pub AcceptAlike : NfaValue → List ℕ → List ℕ → Type 0
AcceptAlike m l l' = (y : List ℕ) (k : ℕ) → AcceptsSome m.states l y k ↔ AcceptsSome m.states l' y k

-- however many states are pushed after it, the new state u leads each text to the ends that the list leads it to
abbrev pub StandsFor : NfaValue → NfaValue → List ℕ → ℕ → Type 0
StandsFor old new l u = (a : List State) → Agrees a new.states 0 (size new) → (y : List ℕ) (k : ℕ) → Accepts a k u y ↔ AcceptsSome old.states l y k

-- the same of the first n states of the list
abbrev pub AcceptsBefore : List State → List ℕ → ℕ → List ℕ → ℕ → Type 0
AcceptsBefore a l n y k = (i : ℕ) × (i < n) × Accepts a k (slice_index l i) y

-- however many states are pushed after them, the new states lead each text to the ends that the first n of the list lead it to
abbrev pub StandForFirst : NfaValue → NfaValue → List ℕ → ℕ → List ℕ → Type 0
StandForFirst old new l n us = (a : List State) → Agrees a new.states 0 (size new) → (y : List ℕ) (k : ℕ) → AcceptsSome a us y k ↔ AcceptsBefore old.states l n y k

-- the state u is there, and stands for the list
pub record IsStateFor (old new : NfaValue) (l : List ℕ) (u : ℕ) : Type 0 where
  pub below : u < size new
  pub stands : StandsFor old new l u
