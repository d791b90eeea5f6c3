use Rattle.std.proofs.Common.{ℕ, ◌<◌, Some, IsTrue}
use Rattle.bit_sets.specs.Bytes.{has_byte}
use Rattle.bit_sets.specs.StateSets.{has_state}
use Rattle.byte_nfa.specs.Steps.{state}
use Rattle.byte_nfa.specs.inner.Pass.{goes_next}
use Rattle.byte_nfa.proofs.nfa.Nfa.last_bytes.Given as goal

abbrev pub invariant-loop-s : goal.invariant-loop-s
invariant-loop-s l = (s c t : ℕ) → s < l.s → IsTrue (goes_next (state l.self.states s) s (Some c) t) → IsTrue (has_state l.accepting t) → IsTrue (has_byte l.bytes c)
