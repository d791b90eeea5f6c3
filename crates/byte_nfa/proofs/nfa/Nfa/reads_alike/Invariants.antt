use Rattle.std.proofs.Common.{◌≡◌, ℕ, ◌<◌}
use Rattle.bit_sets.specs.Bytes.{has_byte, set_at}
use Rattle.byte_nfa.proofs.nfa.Nfa.reads_alike.Given as goal

abbrev pub invariant-loop-set : goal.invariant-loop-set
invariant-loop-set l = (n : ℕ) → n < l.set-index → has_byte (set_at l.set-items n) l.first ≡ has_byte (set_at l.set-items n) l.second
