-- The sets of a run that steps over states.
use Rattle.std.specs.Prelude.{ℕ, min}
use Rattle.bit_sets.specs.StateSets.{state_capacity}
use Rattle.byte_nfa.specs.declared.stepping.StateSets.{StateSets}

-- each of the two sets has room for the states below this
abbrev pub sets_capacity : StateSets → ℕ
sets_capacity sets = min (state_capacity sets.current) (state_capacity sets.next)
