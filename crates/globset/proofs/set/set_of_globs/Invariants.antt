use Rattle.std.proofs.Common.{◌≡◌, length}
use Rattle.globset.proofs.set.set_of_globs.Given as goal

abbrev pub invariant-loop-glob : goal.invariant-loop-glob
invariant-loop-glob l = record {
  given : l.builder.given ≡ l.yielded;
  count : l.builder.count ≡ length l.fn.globs.items;
}
