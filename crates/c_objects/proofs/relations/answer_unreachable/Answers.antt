use Rattle.std.proofs.Common.{arith, ◌≡◌}
use Rattle.std.proofs.lemmas.Grind.{common_steps}
use Rattle.c_objects.specs.LentGlobs.{lent_globs}
use Rattle.c_objects.proofs.lemmas.Answered.{answers_unreachable}
use Rattle.c_objects.proofs.relations.answer_unreachable.Goals as goal

-- The answers are about copies.
pub returns-in-Ok-unreachable-clause-each : goal.returns-in-Ok-unreachable-clause-each
returns-in-Ok-unreachable-clause-each c =
    let copies : c.deref.result.now ≡ lent_globs c.args.globs.now = grind (arith, common_steps) in
    answers_unreachable c.deref.result.now (lent_globs c.args.globs.now) c.args.decides c.args.domain c.args.limit c.in-Ok-unreachable.all copies c.in-Ok-unreachable.ensures.each
