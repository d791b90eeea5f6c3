use Rattle.std.proofs.Common.{◌+◌, ◌++◌, map, drop, get_or, sym, subst}
use Rattle.glob_path.specs.declared.tree.Span.{Span}
use Rattle.glob_path.specs.inner.Building.{rests_of, IsSpan, AreSpans, Stands}
use Rattle.glob_path.proofs.lemmas.Ranges.{all_append}
use Rattle.glob_path.proofs.lemmas.Spans.{drop_at}
use Rattle.glob_path.proofs.lemmas.Standing.{stands_more}
use Rattle.glob_path.proofs.tree.Tree.push_level.Goals as goal

pub loop-span-preserved : goal.loop-span-preserved
loop-span-preserved c =
    let ts = c.args.texts.now in
    let d = c.args.least in
    let level = c.args.level.now in
    let i = c.loop-span.span-index in
    let none : Span = record { from = 0; to = 0; depth = 0 } in
    let e = c.in_ok-push_node.ensures in
    let here = drop_at level i none c.loop-span-test.true in
    record {
      stands = stands_more ts d (get_or level i none) c.loop-span.self c.push_node.new.self c.loop-span.next.items c.push_node.new.next.items (map (rests_of ts) (drop (i + 1) level)) e
          (subst (λ l. Stands ts c.loop-span.self (map (rests_of ts) l ++ map (rests_of ts) c.loop-span.next.items)) here c.loop-span.invariant.stands);
      left = (subst (AreSpans ts d) here c.loop-span.invariant.left).1;
      next = subst (AreSpans ts (d + 1)) (sym e.new_spans) (all_append (IsSpan ts (d + 1)) c.loop-span.next.items e.spans c.loop-span.invariant.next e.split.spans);
    }
