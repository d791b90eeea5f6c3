use Rattle.std.proofs.Common.{◌≡◌, ◌-◌, ◌<◌, length, slice_index}
use Rattle.lazy_dfa.proofs.lemmas.Classes.{AreEquivalenceClassesBelow}
use Rattle.lazy_dfa.proofs.classes.ByteClasses.new.Given as goal

abbrev pub invariant-loop-i : goal.invariant-loop-i
invariant-loop-i l = record {
  classes_len : length l.class_of ≡ 256;
  representatives_len : length l.representatives ≡ 256;
  few : l.last < l.i;
  kinds_len : length l.kinds ≡ 256;
  class : slice_index l.class_of (l.i - 1) ≡ l.class;
  equivalence : AreEquivalenceClassesBelow l.automaton.states l.class_of l.representatives l.last l.i;
}
