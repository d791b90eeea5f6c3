use Rattle.std.proofs.Common.{◌+◌, refl, sym, subst, ◌∙◌, arith, drop, rules}
use Rattle.bit_sets.specs.Indexes.{HasAlso}
use Rattle.bit_sets.proofs.lemmas.IndexSets.{also_none, also_then}
use Rattle.glob_path.specs.inner.Anchors.{from_anchor}
use Rattle.glob_path.specs.inner.Nodes.{held_at, under, along}
use Rattle.glob_path.proofs.lemmas.Anchors.{length-from_anchor}
use Rattle.glob_path.proofs.lemmas.Walks.{walk_child, walk_stop, walk_short}
use Rattle.glob_path.proofs.tree.find.Goals as goal

pub loop-reading-preserved : goal.loop-reading-preserved
loop-reading-preserved c =
    let t = c.args.tree.now in
    let q = from_anchor c.args.anchor c.args.path.now in
    let w = walk_child t c.loop-reading.node q c.loop-reading.at c.in-Some.reading.end c.in-Some-child.child c.in-Some.ensures.run (sym c.in-Some-child.is ∙ c.in-Some.ensures.child) in
    let held = rw c.in-Some.ensures.indexes at c.put_all.ensures.has in
    record {
      room = c.put_all.ensures.room ∙ c.loop-reading.invariant.room;
      found = λ new rest. c.loop-reading.invariant.found new (rw w.0 (also_then c.loop-reading.into c.put_all.new.self new (held_at t c.loop-reading.node)
          (along (under t c.in-Some-child.child) (drop (c.in-Some.reading.end + 1) q)) c.put_all.ensures.room held rest));
      node = search rules;
      at = omega (arith, w.1, length-from_anchor c.args.anchor c.args.path.now);
      visits = omega (arith, c.in-Some.ensures.visits, c.in-Some.ensures.run.1, c.loop-reading.invariant.visits);
      counted = omega (arith, c.in-Some.ensures.visits, c.loop-reading.invariant.counted);
    }

pub returns-in-None-clause-found : goal.returns-in-None-clause-found
returns-in-None-clause-found c =
    let t = c.args.tree.now in
    let q = from_anchor c.args.anchor c.args.path.now in
    let w = walk_stop t c.loop-reading.node q c.loop-reading.at c.in-Some.reading.end c.in-Some.ensures.run (sym c.in-None.is ∙ c.in-Some.ensures.child) in
    c.loop-reading.invariant.found c.put_all.new.self (rw (w, ← c.in-Some.ensures.indexes) c.put_all.ensures.has)

pub returns-clause-found : goal.returns-clause-found
returns-clause-found c =
    let t = c.args.tree.now in
    let q = from_anchor c.args.anchor c.args.path.now in
    let w = walk_short t c.loop-reading.node q c.loop-reading.at c.in_default.ensures.run in
    c.loop-reading.invariant.found c.loop-reading.into (subst (HasAlso c.loop-reading.into c.loop-reading.into) (sym w) (also_none c.loop-reading.into c.loop-reading.into (λ k. refl)))
