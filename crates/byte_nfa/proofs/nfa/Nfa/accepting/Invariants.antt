use Rattle.std.proofs.Common.{◌≡◌}
use Rattle.bit_sets.specs.StateSets.{has_state, state_capacity}
use Rattle.byte_nfa.proofs.lemmas.Accepting.{AreAcceptingTo}
use Rattle.byte_nfa.proofs.nfa.Nfa.accepting.Given as goal

abbrev pub invariant-loop-s : goal.invariant-loop-s
invariant-loop-s l = record {
  room : state_capacity l.into ≡ state_capacity l.fn.into;
  accepting : AreAcceptingTo l.self.states l.s (has_state l.into);
}
