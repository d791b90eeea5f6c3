-- Automata as lists of numbers.
use Rattle.std.specs.Prelude.{ℕ, List, [], ◌∷◌}
use base.Stored.{Gv, gnum, gnil, gcons}
use Rattle.byte_nfa.specs.Steps.{NfaValue}
use Rattle.byte_nfa.specs.contracts.nfa.Nfa as Nfa

-- each tree of numbers in front of a list, so that it can be read back
abbrev pub flat : Gv → List ℕ → List ℕ
flat gnil xs = 0 ∷ xs
flat (gnum n) xs = 1 ∷ n ∷ xs
flat (gcons a b) xs = 2 ∷ flat a (flat b xs)

-- the automaton as a list of numbers, which no other automaton has
abbrev pub numbers : NfaValue → List ℕ
numbers nfa = flat (Nfa.the_row.coded.code nfa) []
