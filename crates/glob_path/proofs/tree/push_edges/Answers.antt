use Rattle.std.proofs.Common.{◌+◌, ◌∷◌, [], ◌++◌, append-nil, append_assoc, sym, ap, ◌∙◌, arith}
use Rattle.std.specs.Prelude.{slice_index_or}
use Rattle.glob_path.specs.declared.tree.Span.{Span}
use Rattle.glob_path.proofs.lemmas.Spans.{split_none, split_more, above_more, run_moves, get_some}
use Rattle.glob_path.proofs.tree.push_edges.Goals as goal

pub loop-from-init : goal.loop-from-init
loop-from-init c = record {
  low = omega arith;
  high = c.requires.from;
  bs = [];
  ss = [];
  bytes = sym (append-nil c.args.bytes.now.items);
  next = sym (append-nil c.args.next.now.items);
  split = split_none c.args.texts.now (c.args.span.depth + 1) c.args.span.depth c.args.span.from;
  above = λ y e l n. tt;
}

pub loop-from-smaller : goal.loop-from-smaller
loop-from-smaller c =
    let t = c.index-texts-from.result in
    let n = get_some (slice_index_or c.args.texts.now c.loop-from.from t).bytes.items c.args.span.depth c.index-byte.result.now _ (c.requires.long c.loop-from.from t c.loop-from.invariant.low c.loop-from-test.true) c.index-byte.ensures in
    omega (arith, run_moves c.args.texts.now c.args.span.depth c.loop-from.from c.args.span.to c.end_of_run-to.result c.index-byte.result.now t c.end_of_run-to.ensures.low c.loop-from-test.true c.end_of_run-to.ensures.stop n, c.end_of_run-to.ensures.high)

pub loop-from-preserved : goal.loop-from-preserved
loop-from-preserved c =
    let t = c.index-texts-from.result in
    let x = c.index-byte.result.now in
    let i = c.loop-from.invariant in
    let to = c.end_of_run-to.result in
    let run = c.end_of_run-to.ensures in
    let n = get_some (slice_index_or c.args.texts.now c.loop-from.from t).bytes.items c.args.span.depth x _ (c.requires.long c.loop-from.from t i.low c.loop-from-test.true) c.index-byte.ensures in
    let moves = run_moves c.args.texts.now c.args.span.depth c.loop-from.from c.args.span.to to x t run.low c.loop-from-test.true run.stop n in
    let above = i.above x t c.loop-from-test.true n in
    let span : Span = record { from = c.loop-from.from; to = to; depth = c.args.span.depth + 1 } in
    record {
      low = omega (arith, i.low, run.low);
      high = run.high;
      bs = i.bs ++ x ∷ [];
      ss = i.ss ++ span ∷ [];
      bytes = c.in_ok-push.ensures.items ∙ ap (λ l. l ++ x ∷ []) i.bytes ∙ append_assoc c.args.bytes.now.items i.bs (x ∷ []);
      next = c.in_ok-push-2.ensures.items ∙ ap (λ l. l ++ span ∷ []) i.next ∙ append_assoc c.args.next.now.items i.ss (span ∷ []);
      split = split_more c.args.texts.now c.loop-from.from to x c.args.span i.bs i.ss c.requires.to c.requires.ordered i.low moves run.high run.run c.requires.long above t i.split;
      above = λ y e l m. above_more c.args.texts.now c.args.span.depth c.loop-from.from to x c.args.span i.bs c.requires.ordered i.low moves l run.run (run.stop l) above y e m;
    }
