use Rattle.glob_relations.proofs.lemmas.Classes.{AreFound}
use Rattle.glob_relations.proofs.classes.representatives.Given as goal

abbrev pub invariant-loop-i : goal.invariant-loop-i
invariant-loop-i l = AreFound l.automaton l.boundaries l.bytes.items l.others.items l.i
