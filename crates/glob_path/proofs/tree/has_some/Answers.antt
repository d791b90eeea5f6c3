use Rattle.std.proofs.Common.{◌+◌, sym, ◌∙◌, arith, drop, rules, tests}
use Rattle.glob_path.specs.inner.Anchors.{from_anchor}
use Rattle.glob_path.specs.inner.Nodes.{held_at, under, along}
use Rattle.glob_path.proofs.lemmas.Anchors.{length-from_anchor}
use Rattle.glob_path.proofs.lemmas.Walks.{walk_child, walk_stop, walk_short, has_step, has_here, none_from_length, some_from_length}
use Rattle.glob_path.proofs.tree.has_some.Goals as goal

pub loop-reading-preserved : goal.loop-reading-preserved
loop-reading-preserved c =
    let t = c.args.tree.now in
    let q = from_anchor c.args.anchor c.args.path.now in
    let w = walk_child t c.loop-reading.node q c.loop-reading.at c.in-Some.reading.end c.in-Some-child.child c.in-Some.ensures.run (sym c.in-Some-child.is ∙ c.in-Some.ensures.child) in
    let z = none_from_length c.in-Some.reading.indexes.now (search (rules, tests)) in
    record {
      found = has_step (along (under t c.loop-reading.node) (drop c.loop-reading.at q)) (held_at t c.loop-reading.node) (along (under t c.in-Some-child.child) (drop (c.in-Some.reading.end + 1) q))
          (along (under t 0) q) c.loop-reading.invariant.found w.0 (sym c.in-Some.ensures.indexes ∙ z);
      node = search rules;
      at = omega (arith, w.1, length-from_anchor c.args.anchor c.args.path.now);
      visits = omega (arith, c.in-Some.ensures.visits, c.in-Some.ensures.run.1, c.loop-reading.invariant.visits);
      counted = omega (arith, c.in-Some.ensures.visits, c.loop-reading.invariant.counted);
    }

pub returns-in-None-clause-some : goal.returns-in-None-clause-some
returns-in-None-clause-some c =
    let t = c.args.tree.now in
    let q = from_anchor c.args.anchor c.args.path.now in
    let w = walk_stop t c.loop-reading.node q c.loop-reading.at c.in-Some.reading.end c.in-Some.ensures.run (sym c.in-None.is ∙ c.in-Some.ensures.child) in
    let z = none_from_length c.in-Some.reading.indexes.now (search (rules, tests)) in
    (λ e. cc, λ n. absurd (n (sym c.loop-reading.invariant.found ∙ w ∙ sym c.in-Some.ensures.indexes ∙ z)))

pub returns-clause-some : goal.returns-clause-some
returns-clause-some c =
    let t = c.args.tree.now in
    let q = from_anchor c.args.anchor c.args.path.now in
    let w = walk_short t c.loop-reading.node q c.loop-reading.at c.in_default.ensures.run in
    (λ e. cc, λ n. absurd (n (sym c.loop-reading.invariant.found ∙ w)))

pub returns-then-not-is_empty-clause-some : goal.returns-then-not-is_empty-clause-some
returns-then-not-is_empty-clause-some c =
    let t = c.args.tree.now in
    let q = from_anchor c.args.anchor c.args.path.now in
    let z = some_from_length c.in-Some.reading.indexes.now (search (rules, tests)) in
    (λ e. has_here t c.loop-reading.node q c.loop-reading.at c.in-Some.reading.end (along (under t 0) q) c.in-Some.ensures.run c.loop-reading.invariant.found (λ n. z (c.in-Some.ensures.indexes ∙ n)), λ n. search rules)
