use Rattle.std.proofs.Common.{[], ◌∙◌, refl}
use Rattle.std.proofs.lemmas.Result.{err_from_is_err_and}
use Rattle.globsift.proofs.lemmas.Handling.{Handles-start, lines_step, lines_end, lines_fail}
use Rattle.globsift.proofs.sifting.output.Output.handle_lines.Goals as goal

pub loop-i-init : goal.loop-i-init
loop-i-init g c = ([], refl, (refl, refl), Handles-start _ _ [] _ _ _ refl)

pub loop-i-preserved : goal.loop-i-preserved
loop-i-preserved g c =
    let i = c.loop-i.invariant in
    let put = rw (i.2.0, i.2.1) at c.in_ok-handle_line.ensures.done in
    let equivalent = c.handle_line.ensures.equivalent in
    let step = lines_step _ _ _ i.0 _ c.in-Some.i _ _ _ _ _ _ _ _ _ i.1 i.3 c.in-Some.ensures put.0 put.1 in
    (step.0, step.1, (equivalent.0 ∙ i.2.0, equivalent.1 ∙ i.2.1), step.2)

pub returns-clause-done : goal.returns-clause-done
returns-clause-done g c =
    let i = c.loop-i.invariant in
    lines_end _ _ _ i.0 c.loop-i.rest.now _ _ _ _ _ _ _ i.1 i.3 c.in_default.is c.memchr.ensures

pub returns-in_err-handle_line-clause-done : goal.returns-in_err-handle_line-clause-done
returns-in_err-handle_line-clause-done g c =
    let i = c.loop-i.invariant in
    let p = err_from_is_err_and c.from_residual.result c.from_residual.ensures.1 in
    rw (p.1, p.2) (lines_fail _ _ _ i.0 _ c.in-Some.i _ _ _ _ _ _ _ _ i.1 i.3 c.in-Some.ensures (rw (i.2.0, i.2.1) at c.in_err-handle_line.ensures.done))
