-- Facts of an automaton, for calls that do not run it.
use Rattle.std.specs.Prelude.{◌≡◌, ℕ}
use Rattle.bit_sets.specs.declared.byte_set.ByteSet.{ByteSet}
use Rattle.byte_nfa.specs.Runs.{HasLastBytes, size}
use Rattle.byte_nfa.specs.Steps.{NfaValue}

-- the automaton has this number of states, and each text that leads to an end ends with one of the bytes, or is empty
pub record IsSource (m : NfaValue) (count : ℕ) (last_bytes : ByteSet) : Type 0 where
  pub states : count ≡ size m
  pub last : HasLastBytes m last_bytes
