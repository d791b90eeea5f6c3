use Rattle.std.proofs.Common.{◌≡◌, length}
use Rattle.globset.specs.SetValue.{set_globs}
use Rattle.c_objects.specs.Paths.{AreEnds, last_indexes_for}
use Rattle.c_objects.proofs.searchers.find_last.Given as goal

-- The last path of the ends that are left is that of all ends.
abbrev pub invariant-each : goal.invariant-each
invariant-each l =
    (last_indexes_for (set_globs l.fn.searcher.set) l.fn.searcher.found l.paths l.start l.rest ≡ last_indexes_for (set_globs l.fn.searcher.set) l.fn.searcher.found l.paths l.fn.start l.fn.ends)
    × AreEnds (length l.paths) l.start l.rest
    × (l.searcher ≡ l.fn.searcher)

abbrev pub decreases-each : goal.decreases-each
decreases-each l = length l.rest
