use Rattle.std.proofs.Common.{◌≡◌, ℕ, ◌+◌, ◌<◌}
use Rattle.std.specs.Prelude.{◌↔◌, IsFalse}
use Rattle.byte_nfa.specs.Equivalent.{reads_byte}
use Rattle.bit_sets.specs.Bytes.{has_byte}
use Rattle.byte_nfa.specs.Steps.{state}
use Rattle.byte_nfa.proofs.nfa.Nfa.class_boundaries.Given as goal

abbrev pub invariant-loop-state : goal.invariant-loop-state
invariant-loop-state l = (b : ℕ) → b + 1 < 256 → IsFalse (has_byte l.changes b) ↔ ((s : ℕ) → s < l.state-index → reads_byte (state l.self.states s) b ≡ reads_byte (state l.self.states s) (b + 1))
