-- Automata that are run, as contracts see them.
use Rattle.byte_nfa.specs.Steps.{NfaValue}

-- the automaton whose ends are found, and the one that is run for it
pub record SimulationValue : Type 0 where
  pub nfa : NfaValue
  pub run : NfaValue
