use Rattle.std.proofs.Common.{◌≡◌}
use Rattle.bit_sets.proofs.byte_sets.ByteSets.give_places.Given as goal

abbrev pub invariant-loop-at : goal.invariant-loop-at
invariant-loop-at l = l.self.sets.items ≡ l.fn.self.sets.items
