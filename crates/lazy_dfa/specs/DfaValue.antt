-- Automata whose rows are made by need, as contracts see them.
use Rattle.std.specs.Prelude.{ℕ, List}
use Rattle.byte_nfa.specs.Steps.{NfaValue}

-- the automaton whose ends are found, and the one that is run for it; for each byte the number of its class, and how many classes
-- there are; and the states that a run begins in
pub record DfaValue : Type 0 where
  pub nfa : NfaValue
  pub run : NfaValue
  pub class_of : List ℕ
  pub class_count : ℕ
  pub first : List ℕ
