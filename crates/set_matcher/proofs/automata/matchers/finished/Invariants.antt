use Rattle.std.proofs.Common.{◌≡◌}
use Rattle.set_matcher.proofs.automata.matchers.finished.Given as goal

abbrev pub invariant-loop-builder : goal.invariant-loop-builder
invariant-loop-builder l = l.automata.items ≡ l.yielded
