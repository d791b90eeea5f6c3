use Rattle.std.proofs.Common.{length, ◌-◌}
use Rattle.engine.proofs.sharing.missing_lists.Given as goal

abbrev pub decreases-loop-at : goal.decreases-loop-at
decreases-loop-at l = length l.states - l.at
