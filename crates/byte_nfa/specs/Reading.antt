-- States as they are read.
use Rattle.std.specs.Prelude.{[], ◌∷◌}
use Rattle.byte_nfa.specs.Steps.{State, bytes_state, union_state, loop_state, match_state}
use Rattle.byte_nfa.specs.declared.nfa.StateRef.{StateRef}
use Rattle.byte_nfa.specs.declared.nfa.StateRef.TheVariants.{Bytes, Union, Loop, Match}

-- the state that was read
abbrev pub is_read : StateRef → State
is_read (Bytes w t) = bytes_state w.now t
is_read (Union us) = union_state us.now
is_read (Loop w t) = loop_state w.now (t ∷ [])
is_read (Match k) = match_state k
