use Rattle.std.proofs.Common.{◌∙◌, ℕ, ap, arith, sym}
use Rattle.std.specs.Option.{option_copied}
use Rattle.std.proofs.lemmas.List.{length-drop, length-take, take_all}
use Rattle.git_ignore.proofs.lemmas.Lines.{first_line_at, line_skipped, no_line_after, only_line_at}
use Rattle.git_ignore.proofs.reading.line_at.Goals as goal

pub returns-in_err-rest : goal.returns-in_err-rest
returns-in_err-rest c =
    ap option_copied c.from_residual-in_err-rest.ensures ∙ sym (no_line_after c.loop-left.rest.now c.loop-left.left (omega (arith, c.loop-left-test.true)) c.in_err-rest.ensures) ∙ c.loop-left.invariant.line

pub loop-left-preserved : goal.loop-left-preserved
loop-left-preserved c = record {
  line = line_skipped c.loop-left.rest.now _ c.in_ok-rest.field-0 c.loop-left.left (omega (arith, c.loop-left-test.true)) c.in_ok-rest.ensures (take_all _ _ (simp length-drop (omega arith))) ∙ c.loop-left.invariant.line;
  within = omega (arith, length-drop {A = ℕ}, length-take {A = ℕ}, c.loop-left.invariant.within);
}

pub returns-in-Some : goal.returns-in-Some
returns-in-Some c = sym (first_line_at c.loop-left.rest.now c.in-Some.end c.loop-left.left (omega (arith, c.loop-left-test.false)) c.in-Some.ensures) ∙ c.loop-left.invariant.line

pub returns-in-None : goal.returns-in-None
returns-in-None c = sym (only_line_at c.loop-left.rest.now c.loop-left.left (omega (arith, c.loop-left-test.false)) c.in-None.ensures) ∙ c.loop-left.invariant.line
