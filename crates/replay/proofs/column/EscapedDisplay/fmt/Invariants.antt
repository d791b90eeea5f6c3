use Rattle.std.proofs.Common.{◌≤◌, length}
use Rattle.replay.proofs.column.EscapedDisplay.fmt.Given as goal

abbrev pub invariant-loop-space : goal.invariant-loop-space
invariant-loop-space g l = length l.rest ≤ length l.fn.self.0.now

abbrev pub decreases-loop-space : goal.decreases-loop-space
decreases-loop-space g l = length l.rest
