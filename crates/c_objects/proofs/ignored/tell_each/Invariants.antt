use Rattle.std.proofs.Common.{◌≡◌, ◌++◌, ◌+◌, length, map}
use Rattle.c_objects.specs.Ignoring.{path_rules}
use Rattle.c_objects.specs.Paths.{AreEnds}
use Rattle.c_objects.proofs.ignored.tell_each.Given as goal

-- What is told so far, and what is told of the ends that are left, is what is told of all ends.
abbrev pub invariant-each : goal.invariant-each
invariant-each g l =
    (l.told.items ++ map g.T.Told.told (path_rules l.fn.stack l.by l.paths l.start l.rest) ≡ map g.T.Told.told (path_rules l.fn.stack l.by l.paths 0 l.fn.ends))
    × AreEnds (length l.paths) l.start l.rest
    × (length l.told.items + length l.rest ≡ length l.fn.ends)
    × (l.stack ≡ l.fn.stack)

abbrev pub decreases-each : goal.decreases-each
decreases-each g l = length l.rest
