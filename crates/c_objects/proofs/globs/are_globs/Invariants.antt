use Rattle.std.proofs.Common.{◌≡◌}
use Rattle.std.specs.Prelude.{take}
use Rattle.c_objects.specs.LentGlobs.{AreGlobs}
use Rattle.c_objects.proofs.globs.are_globs.Given as goal

-- The handles are as they were, and those so far are of globs.
abbrev pub invariant-loop-i : goal.invariant-loop-i
invariant-loop-i l = (l.globs ≡ l.fn.globs) × AreGlobs (take l.i l.fn.globs)
