use Rattle.std.proofs.Common.{length}
use Rattle.ignore_pattern.specs.Lines.{without_spaces}
use Rattle.ignore_pattern.proofs.lemmas.Lines.{Stands}
use Rattle.ignore_pattern.proofs.line.without_spaces.Given as goal

abbrev pub invariant-loop-rest : goal.invariant-loop-rest
invariant-loop-rest l = Stands l.line l.kept l.rest (without_spaces l.line)

abbrev pub decreases-loop-rest : goal.decreases-loop-rest
decreases-loop-rest l = length l.rest
