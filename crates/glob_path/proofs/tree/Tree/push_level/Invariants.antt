use Rattle.std.proofs.Common.{◌+◌, ◌++◌, map, drop}
use Rattle.glob_path.specs.inner.Building.{rests_of, AreSpans, Stands}
use Rattle.glob_path.proofs.tree.Tree.push_level.Given as goal

abbrev pub invariant-loop-span : goal.invariant-loop-span
invariant-loop-span l = record {
  stands : Stands l.texts l.self (map (rests_of l.texts) (drop l.span-index l.level) ++ map (rests_of l.texts) l.next.items);
  left : AreSpans l.texts l.least (drop l.span-index l.level);
  next : AreSpans l.texts (l.least + 1) l.next.items;
}
