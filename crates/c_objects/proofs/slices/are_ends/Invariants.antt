use Rattle.std.proofs.Common.{length}
use Rattle.c_objects.specs.Paths.{AreEnds}
use Rattle.c_objects.proofs.slices.are_ends.Given as goal

-- The ends are in order if those that are left are, and only then.
abbrev pub invariant-each : goal.invariant-each
invariant-each l =
    (AreEnds l.len l.start l.rest → AreEnds l.len 0 l.fn.ends)
    × (AreEnds l.len 0 l.fn.ends → AreEnds l.len l.start l.rest)

abbrev pub decreases-each : goal.decreases-each
decreases-each l = length l.rest
