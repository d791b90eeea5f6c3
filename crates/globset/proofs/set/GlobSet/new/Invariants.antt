use Rattle.std.proofs.Common.{◌≡◌}
use Rattle.globset.proofs.set.GlobSet.new.Given as goal

abbrev pub invariant-loop-glob : goal.invariant-loop-glob
invariant-loop-glob g l = l.references.items ≡ l.yielded
