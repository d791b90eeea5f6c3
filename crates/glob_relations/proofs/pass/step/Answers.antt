use Rattle.std.proofs.Common.{◌∷◌}
use Rattle.byte_nfa.proofs.lemmas.Pass.{iff_trans}
use Rattle.glob_relations.proofs.pass.step.Goals as goal

pub returns-clause-steps : goal.returns-clause-steps
returns-clause-steps c = λ y k. iff_trans (c.load.ensures.same (c.args.byte ∷ y) k) (c.step_set.ensures.steps y k)
