use Rattle.std.proofs.Common.{rules, arith, ◌≡◌}
use Rattle.std.proofs.lemmas.Grind.{common_steps}
use Rattle.std.specs.Prelude.{Some}
use Rattle.c_objects.specs.Kinds.{IfGlob}
use Rattle.c_objects.specs.LentGlobs.{lent_globs}
use Rattle.c_objects.proofs.lemmas.Answered.{answers_covering}
use Rattle.c_objects.proofs.relations.answer_covering.Goals as goal

-- The answer is about copies.
pub returns-in-Ok-covering-clause-told : goal.returns-in-Ok-covering-clause-told
returns-in-Ok-covering-clause-told c =
    let one : IfGlob (Some c.args.glob.now.object) (λ h. c.in_ok-glob.glob ≡ h) = search rules in
    let others : c.deref.result.now ≡ lent_globs c.args.by.now = grind (arith, common_steps) in
    answers_covering c.args.glob.now.object c.in_ok-glob.glob c.deref.result.now (lent_globs c.args.by.now) c.args.domain c.args.limit c.in-Ok-covering.coverage one others c.in-Ok-covering.ensures.ok
