use Rattle.std.proofs.Common.{◌≡◌, length}
use Rattle.std.specs.Prelude.{take}
use Rattle.c_objects.specs.LentGlobs.{lent_globs}
use Rattle.c_objects.proofs.sets.set_of.Given as goal

-- The handles are as they were, and the globs so far are added.
abbrev pub invariant-loop-i : goal.invariant-loop-i
invariant-loop-i l =
    (l.globs ≡ l.fn.globs)
    × (l.builder.value.given ≡ lent_globs (take l.i l.fn.globs))
    × (l.builder.value.count ≡ length l.fn.globs)
