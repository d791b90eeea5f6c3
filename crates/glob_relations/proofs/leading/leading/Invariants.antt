use Rattle.glob_relations.proofs.lemmas.Leading.{AreLeadingTo}
use Rattle.glob_relations.proofs.leading.leading.Given as goal

abbrev pub invariant-loop-s : goal.invariant-loop-s
invariant-loop-s l = AreLeadingTo l.automaton l.index l.marks.items l.s
