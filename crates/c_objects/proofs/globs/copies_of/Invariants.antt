use Rattle.std.proofs.Common.{◌≡◌}
use Rattle.std.specs.Prelude.{take}
use Rattle.c_objects.specs.LentGlobs.{lent_globs}
use Rattle.c_objects.proofs.globs.copies_of.Given as goal

-- The handles are as they were, and the globs so far are copied.
abbrev pub invariant-loop-i : goal.invariant-loop-i
invariant-loop-i l = (l.globs ≡ l.fn.globs) × (l.copies.items ≡ lent_globs (take l.i l.fn.globs))
