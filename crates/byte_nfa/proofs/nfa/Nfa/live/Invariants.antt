use Rattle.std.proofs.Common.{◌≡◌}
use Rattle.bit_sets.specs.StateSets.{has_state, state_capacity}
use Rattle.byte_nfa.proofs.lemmas.Live.{AreLiveTo}
use Rattle.byte_nfa.proofs.nfa.Nfa.live.Given as goal

abbrev pub invariant-loop-s : goal.invariant-loop-s
invariant-loop-s l = record {
  room : state_capacity l.into ≡ state_capacity l.fn.into;
  live : AreLiveTo l.self.states l.s (has_state l.into);
}
