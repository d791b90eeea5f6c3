use Rattle.std.proofs.Common.{◌≡◌, length}
use Rattle.glob_syntax.specs.Ranges.{bad_range, bad_chain}
use Rattle.glob_syntax.proofs.class.bad_range.Given as goal

abbrev pub invariant-loop-rest : goal.invariant-loop-rest
invariant-loop-rest l = bad_chain l.start l.rest ≡ bad_range l.fn.body

abbrev pub decreases-loop-rest : goal.decreases-loop-rest
decreases-loop-rest l = length l.rest
