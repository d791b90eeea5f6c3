use Rattle.std.proofs.Common.{◌≡◌, ◌++◌, ◌+◌, length}
use Rattle.std.specs.Prelude.{take}
use Rattle.globset.specs.SetValue.{set_globs}
use Rattle.c_objects.specs.Paths.{AreEnds, answers_for}
use Rattle.c_objects.proofs.searchers.answer_each.Given as goal

-- The answers so far, and those of the ends that are left, are those of all ends.
abbrev pub invariant-each : goal.invariant-each
invariant-each l =
    (take l.count l.answers ++ answers_for (set_globs l.fn.searcher.set) l.paths l.start l.rest ≡ answers_for (set_globs l.fn.searcher.set) l.paths 0 l.fn.ends)
    × AreEnds (length l.paths) l.start l.rest
    × (l.count + length l.rest ≡ length l.answers)
    × (l.searcher ≡ l.fn.searcher)

abbrev pub decreases-each : goal.decreases-each
decreases-each l = length l.rest
