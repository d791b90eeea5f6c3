use Rattle.std.proofs.Common.{◌≡◌, ◌++◌, length}
use Rattle.glob_syntax.specs.Ranges.{ranges, chain}
use Rattle.glob_syntax.proofs.class.ranges.Given as goal

abbrev pub invariant-loop-rest : goal.invariant-loop-rest
invariant-loop-rest l = l.out.items ++ chain l.start l.last l.rest ≡ ranges l.fn.body

abbrev pub decreases-loop-rest : goal.decreases-loop-rest
decreases-loop-rest l = length l.rest
