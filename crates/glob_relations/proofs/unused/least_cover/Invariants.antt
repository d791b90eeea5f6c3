use Rattle.std.proofs.Common.{◌-◌, ◌≤◌, length}
use Rattle.glob_relations.proofs.lemmas.Unused.{IsCoverTo}
use Rattle.glob_relations.proofs.unused.least_cover.Given as goal

abbrev pub invariant-loop-i : goal.invariant-loop-i
invariant-loop-i g l = record {
  within : l.i ≤ length l.set.items;
  cover : IsCoverTo (g.T.Compared.matches l.options) l.items l.item l.others l.domain l.set.items l.i;
}

abbrev pub decreases-loop-i : goal.decreases-loop-i
decreases-loop-i g l = length l.set.items - l.i
