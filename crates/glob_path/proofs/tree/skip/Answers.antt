use Rattle.std.proofs.Common.{◌+◌, Some, drop, get_or, sym, ap, subst, ◌∙◌, MatchOption, arith}
use Rattle.glob_path.specs.inner.Anchors.{from_anchor}
use Rattle.glob_path.specs.inner.Nodes.{after_run, HasRun, HasNoRun}
use Rattle.glob_path.proofs.lemmas.Anchors.{length-from_anchor}
use Rattle.glob_path.proofs.lemmas.Runs.{run_on, run_ends, run_parts}
use Rattle.glob_path.proofs.lemmas.Spans.{drop_at}
use Rattle.glob_path.proofs.lemmas.Walks.{within_some}
use Rattle.glob_path.proofs.tree.skip.Goals as goal

pub returns-in_err-byte : goal.returns-in_err-byte
returns-in_err-byte c =
    let q = from_anchor c.args.anchor c.args.path.now in
    let run = c.args.run.now in
    let i = c.loop-byte.byte-index in
    let none : HasNoRun run q c.args.at =
    c.loop-byte.invariant.rest
    ∙ ap (λ r. after_run r (drop c.loop-byte.end q)) (drop_at run i 0 c.loop-byte-test.true)
    ∙ run_ends (get_or run i 0) c.loop-byte.end (drop (i + 1) run) q (sym c.in_err-byte.ensures) in
    subst (λ o. MatchOption o (HasNoRun run q c.args.at) (λ end. HasRun run q c.args.at end)) (sym c.from_residual.ensures) none

pub returns-then-branch-byte : goal.returns-then-branch-byte
returns-then-branch-byte c =
    let q = from_anchor c.args.anchor c.args.path.now in
    let run = c.args.run.now in
    let i = c.loop-byte.byte-index in
    c.loop-byte.invariant.rest
    ∙ ap (λ r. after_run r (drop c.loop-byte.end q)) (drop_at run i 0 c.loop-byte-test.true)
    ∙ run_parts (get_or run i 0) c.in_ok-byte.field-0 c.loop-byte.end (drop (i + 1) run) q (sym c.in_ok-byte.ensures) c.if-branch-byte.true

pub overflow_add-end : goal.overflow_add-end
overflow_add-end c =
    omega (arith, within_some (from_anchor c.args.anchor c.args.path.now) c.loop-byte.end c.in_ok-byte.field-0 (sym c.in_ok-byte.ensures), length-from_anchor c.args.anchor c.args.path.now)

pub loop-byte-preserved : goal.loop-byte-preserved
loop-byte-preserved c =
    let q = from_anchor c.args.anchor c.args.path.now in
    let run = c.args.run.now in
    let i = c.loop-byte.byte-index in
    record {
      end = omega (arith, c.loop-byte.invariant.end);
      rest = c.loop-byte.invariant.rest
          ∙ ap (λ r. after_run r (drop c.loop-byte.end q)) (drop_at run i 0 c.loop-byte-test.true)
          ∙ run_on (get_or run i 0) c.loop-byte.end (drop (i + 1) run) q (sym c.in_ok-byte.ensures ∙ ap Some c.if-branch-byte.false);
    }
