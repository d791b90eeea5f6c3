use Rattle.glob_relations.proofs.lemmas.Hiding.{IsClearTo}
use Rattle.glob_relations.proofs.ignoring.hiding_rule.Given as goal

abbrev pub invariant-loop-at : goal.invariant-loop-at
invariant-loop-at l = IsClearTo l.ignores l.automaton l.path l.at
