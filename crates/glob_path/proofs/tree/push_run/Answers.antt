use Rattle.std.proofs.Common.{◌∷◌, [], ◌++◌, append_assoc, ap, ◌∙◌}
use Rattle.glob_path.proofs.lemmas.Spans.{shared_more, whole_span}
use Rattle.glob_path.proofs.tree.push_run.Goals as goal

pub loop-byte-preserved : goal.loop-byte-preserved
loop-byte-preserved c =
    let i = c.loop-byte.invariant in
    let x = c.in-Some.byte in
    let e = c.in-Some.ensures in
    record {
      run = i.run ++ x ∷ [];
      runs = c.in_ok-push.ensures.items ∙ ap (λ l. l ++ x ∷ []) i.runs ∙ append_assoc c.args.runs.now.items i.run (x ∷ []);
      shared = shared_more c.args.texts.now x c.args.span c.loop-byte.after i.run e.shared i.shared;
      span = whole_span c.args.texts.now c.args.least x c.loop-byte.after i.span e.shared e.some;
    }
