use Rattle.std.proofs.Common.{map}
use Rattle.glob_path.specs.inner.Building.{rests_of, AreSpans, Stands}
use Rattle.glob_path.proofs.tree.Tree.build.Given as goal

abbrev pub invariant-loop-least : goal.invariant-loop-least
invariant-loop-least l = record {
  stands : Stands l.texts l.tree (map (rests_of l.texts) l.level.items);
  spans : AreSpans l.texts l.least l.level.items;
}
