use Rattle.std.proofs.Common.{◌≡◌, ◌++◌, ◌+◌, length}
use Rattle.globset.specs.SetValue.{set_globs}
use Rattle.c_objects.specs.Paths.{AreEnds, ends_among, indexes_for, index_ends_for, last_indexes_for, paths_from}
use Rattle.c_objects.proofs.searchers.find_each.Given as goal

-- The indexes so far, and those of the ends that are left, are those of all ends, and so it is with where they end.
abbrev pub invariant-each : goal.invariant-each
invariant-each l =
    (l.found.indexes.items ++ indexes_for (set_globs l.fn.searcher.set) l.paths l.start l.rest ≡ indexes_for (set_globs l.fn.searcher.set) l.paths 0 l.fn.ends)
    × (l.found.ends.items ++ ends_among (set_globs l.fn.searcher.set) (length l.found.indexes.items) (paths_from l.paths l.start l.rest) ≡ index_ends_for (set_globs l.fn.searcher.set) l.paths 0 l.fn.ends)
    × (last_indexes_for (set_globs l.fn.searcher.set) l.searcher.found l.paths l.start l.rest ≡ last_indexes_for (set_globs l.fn.searcher.set) l.fn.searcher.found l.paths 0 l.fn.ends)
    × AreEnds (length l.paths) l.start l.rest
    × (length l.found.ends.items + length l.rest ≡ length l.fn.ends)
    × (l.searcher.set ≡ l.fn.searcher.set)

abbrev pub decreases-each : goal.decreases-each
decreases-each l = length l.rest
