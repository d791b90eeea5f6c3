use Rattle.std.proofs.Common.{◌≡◌, ◌+◌, length, take}
use Rattle.ignore_pattern.specs.inner.States.{HasBelow, IsFor}
use Rattle.ignore_pattern.proofs.automaton.automaton_of.Given as goal

abbrev pub invariant-loop-index : goal.invariant-loop-index
invariant-loop-index l = record {
  is_for : IsFor l.ignore_case (take l.index l.patterns) (length l.patterns) l.builder;
  below : HasBelow l.builder l.below (length l.patterns);
  below_negated : HasBelow l.builder l.below_negated (length l.patterns + 1);
  count : l.builder.index_count ≡ length l.patterns + 2;
}
