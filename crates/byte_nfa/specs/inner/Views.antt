-- The states as an automaton stores them: a list has the sets of bytes, and another the states that states lead to without a
-- byte.
use Rattle.std.specs.Prelude.{ℕ, ◌+◌, ◌<◌, List, [], ◌∷◌, map, length, slice_index, slice_range}
use Rattle.byte_nfa.specs.Steps.{State, bytes_state, union_state, loop_state, match_state, state, NfaValue}
use Rattle.bit_sets.specs.Bytes.{set_at}
use Rattle.bit_sets.specs.Numbers.{AreBelow}
use Rattle.bit_sets.specs.declared.byte_set.ByteSet.{ByteSet}
use Rattle.byte_nfa.specs.declared.state.State as declared
use Rattle.byte_nfa.specs.declared.state.State.TheVariants.{Bytes, Union, Loop, Match}

-- the states that stand in the list behind their count
abbrev pub exits_at : List ℕ → ℕ → List ℕ
exits_at targets at = slice_range targets (at + 1) (at + 1 + slice_index targets at)

-- the state that is stored so, with its set of bytes and the states that it leads to looked up
abbrev pub of_state : List ByteSet → List ℕ → declared.State → State
of_state sets targets (Bytes n t) = bytes_state (set_at sets n) t
of_state sets targets (Union at) = union_state (exits_at targets at)
of_state sets targets (Loop n t) = loop_state (set_at sets n) (t ∷ [])
of_state sets targets (Match k) = match_state k

-- the states that are stored so, in the same order
abbrev pub of_states : List ByteSet → List ℕ → List declared.State → List State
of_states sets targets states = map (of_state sets targets) states

-- the state's set is among the sets, and the list has the states that it leads to
abbrev pub IsHeld : List ByteSet → List ℕ → declared.State → Type 0
IsHeld sets targets (Bytes n t) = n < length sets
IsHeld sets targets (Union at) = at + slice_index targets at < length targets
IsHeld sets targets (Loop n t) = n < length sets
IsHeld sets targets (Match k) = Unit {0}

-- the same of each of the states
abbrev pub AreHeld : List ByteSet → List ℕ → List declared.State → Type 0
AreHeld sets targets [] = Unit {0}
AreHeld sets targets (x ∷ xs) = IsHeld sets targets x × AreHeld sets targets xs

-- the state leads only to states with a lower number
abbrev pub GoesBelow : ℕ → State → Type 0
GoesBelow s (bytes_state w t) = t < s
GoesBelow s (union_state us) = AreBelow s us
GoesBelow s (loop_state w us) = AreBelow s us
GoesBelow s (match_state k) = Unit {0}

-- the index that the state names is below n
abbrev pub NamesBelow : ℕ → State → Type 0
NamesBelow n (bytes_state w t) = Unit {0}
NamesBelow n (union_state us) = Unit {0}
NamesBelow n (loop_state w us) = Unit {0}
NamesBelow n (match_state k) = k < n

-- the invariants of an automaton's parts
pub record AreSound (sets : List ByteSet) (targets : List ℕ) (states : List declared.State) (starts : List ℕ) (n : ℕ) : Type 0 where
  pub held : AreHeld sets targets states
  pub down : (s : ℕ) → GoesBelow s (state (of_states sets targets states) s)
  pub named : (s : ℕ) → NamesBelow n (state (of_states sets targets states) s)
  pub begun : AreBelow (length states) starts

-- the value of an automaton of these parts
abbrev pub nfa : List ByteSet → List ℕ → List declared.State → List ℕ → ℕ → NfaValue
nfa sets targets states starts n = record {
  states = of_states sets targets states;
  starts = starts;
  index_count = n;
}
