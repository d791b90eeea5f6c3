-- What rows of an automaton are made from.
use Rattle.std.specs.Prelude.{ℕ, ◌≤◌, ◌↔◌, List, length}
use Rattle.std.specs.List.Sorted.{IsStrictlyIncreasing}
use Rattle.bit_sets.specs.Numbers.{AreBelow}
use Rattle.byte_nfa.specs.Steps.{NfaValue, IsReached}
use Rattle.byte_nfa.specs.Runs.{size, AcceptsIn}
use Rattle.byte_nfa.specs.inner.Sources.{FitsU32, RunsFor}
use Rattle.lazy_dfa.specs.DfaValue.{DfaValue}
use Rattle.lazy_dfa.specs.inner.Classes.{AreEquivalenceClasses}

-- a list of states, in ascending order
pub record IsListOfStates (m : NfaValue) (list : List ℕ) : Type 0 where
  pub below : AreBelow (size m) list
  pub few : length list ≤ size m
  pub ordered : IsStrictlyIncreasing list

-- one automaton is run for the other, its states and indexes fit a u32, the bytes of a class are read alike, and a run begins in the
-- states of the list
pub record IsDfa (d : DfaValue) : Type 0 where
  pub runs : RunsFor d.nfa d.run
  pub fits : FitsU32 d.run
  pub representatives : List ℕ
  pub classes : AreEquivalenceClasses d.run.states d.class_of representatives d.class_count
  pub few : d.class_count ≤ 256
  pub first : IsListOfStates d.run d.first
  pub begins : (y : List ℕ) (k : ℕ) → AcceptsIn d.run d.first y k ↔ IsReached d.run y k
