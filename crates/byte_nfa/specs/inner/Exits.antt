-- States with a single exit.
use Rattle.std.specs.Prelude.{◌≡◌, ℕ, ◌+◌, ◌<◌, ◌⊎◌, List, [], ◌∷◌, slice_index_or, Option, MatchOption}
use Rattle.bit_sets.specs.declared.byte_set.ByteSet.{ByteSet}
use Rattle.byte_nfa.specs.Steps.{State, loop_state, match_state, state}
use Rattle.byte_nfa.specs.EarlyMatches.{Decides}
use Rattle.byte_nfa.specs.declared.state.State as declared
use Rattle.byte_nfa.specs.declared.state.State.TheVariants.{Bytes, Union, Loop, Match}
use Rattle.bit_sets.specs.Bytes.{HasEvery}

-- the state stays on every byte, and goes on to t alone
abbrev pub StaysBefore : State → ℕ → Type 0
StaysBefore st t = (w : ByteSet) × (st ≡ loop_state w (t ∷ [])) × HasEvery w

-- an answer about the state s: the state that it stays before, which is below it, or that there is none
abbrev pub TellsExit : State → ℕ → Option ℕ → Type 0
TellsExit st s told = MatchOption told ((t : ℕ) → StaysBefore st t → ⊥) (λ t. StaysBefore st t × (t < s))

-- the state t is no end, and decides no index
abbrev pub IsNoEnd : List State → ℕ → Type 0
IsNoEnd a t = ((k : ℕ) → Decides a t k → ⊥) × ((k : ℕ) → state a t ≡ match_state k → ⊥)

-- the counterpart of the state t in an automaton with early matches shows whether t is an end of an index, decides an index, or
-- neither
abbrev pub TellsDecision : List State → ℕ → ℕ → declared.State → Type 0
TellsDecision a n t (Bytes m u) = IsNoEnd a t
TellsDecision a n t (Union at) = IsNoEnd a t
TellsDecision a n t (Loop m u) = IsNoEnd a t
TellsDecision a n t (Match j) = ((j < n) × (state a t ≡ match_state j)) ⊎ ((k : ℕ) × (k < n) × (j ≡ n + k) × Decides a t k)

-- the same of each state below s
abbrev pub TellDecisions : List State → ℕ → ℕ → List declared.State → Type 0
TellDecisions a n s below = (t : ℕ) (x : declared.State) → t < s → x ≡ slice_index_or below t x → TellsDecision a n t x
