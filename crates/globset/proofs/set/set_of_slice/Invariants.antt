use Rattle.std.proofs.Common.{◌≡◌, length, take}
use Rattle.globset.proofs.set.set_of_slice.Given as goal

abbrev pub invariant-loop-glob : goal.invariant-loop-glob
invariant-loop-glob l = record {
  given : l.builder.given ≡ take l.glob-index l.globs;
  count : l.builder.count ≡ length l.globs;
}
