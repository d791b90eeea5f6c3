use Rattle.std.proofs.Common.{◌+◌, sym, ap, ◌∙◌, arith, drop, length, length-append, rules}
use Rattle.glob_path.specs.inner.Anchors.{from_anchor}
use Rattle.glob_path.specs.inner.Nodes.{held_at, under, along}
use Rattle.glob_path.proofs.lemmas.Anchors.{length-from_anchor}
use Rattle.glob_path.proofs.lemmas.Walks.{walk_child, walk_stop, walk_short, here_within}
use Rattle.glob_path.proofs.tree.count.Goals as goal

pub overflow_add-count : goal.overflow_add-count
overflow_add-count c =
    let t = c.args.tree.now in
    let q = from_anchor c.args.anchor c.args.path.now in
    omega (arith, here_within t c.loop-reading.node q c.loop-reading.at c.in-Some.reading.end c.in-Some.ensures.run, ap length c.in-Some.ensures.indexes, c.loop-reading.invariant.found, c.requires.fits)

pub loop-reading-preserved : goal.loop-reading-preserved
loop-reading-preserved c =
    let t = c.args.tree.now in
    let q = from_anchor c.args.anchor c.args.path.now in
    let w = walk_child t c.loop-reading.node q c.loop-reading.at c.in-Some.reading.end c.in-Some-child.child c.in-Some.ensures.run (sym c.in-Some-child.is ∙ c.in-Some.ensures.child) in
    record {
      found = omega (arith, ap length w.0, length-append (held_at t c.loop-reading.node) (along (under t c.in-Some-child.child) (drop (c.in-Some.reading.end + 1) q)), ap length c.in-Some.ensures.indexes, c.loop-reading.invariant.found);
      node = search rules;
      at = omega (arith, w.1, length-from_anchor c.args.anchor c.args.path.now);
      visits = omega (arith, c.in-Some.ensures.visits, c.in-Some.ensures.run.1, c.loop-reading.invariant.visits);
      counted = omega (arith, c.in-Some.ensures.visits, c.loop-reading.invariant.counted);
    }

pub returns-in-None-clause-count : goal.returns-in-None-clause-count
returns-in-None-clause-count c =
    let t = c.args.tree.now in
    let q = from_anchor c.args.anchor c.args.path.now in
    let w = walk_stop t c.loop-reading.node q c.loop-reading.at c.in-Some.reading.end c.in-Some.ensures.run (sym c.in-None.is ∙ c.in-Some.ensures.child) in
    omega (arith, ap length w, ap length c.in-Some.ensures.indexes, c.loop-reading.invariant.found)

pub returns-clause-count : goal.returns-clause-count
returns-clause-count c =
    let t = c.args.tree.now in
    let q = from_anchor c.args.anchor c.args.path.now in
    let w = walk_short t c.loop-reading.node q c.loop-reading.at c.in_default.ensures.run in
    omega (arith, ap length w, c.loop-reading.invariant.found)
