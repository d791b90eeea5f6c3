use Rattle.std.proofs.Common.{◌≡◌, length, map, take}
use Rattle.globset.proofs.set.set_of_references.Given as goal

abbrev pub invariant-loop-glob : goal.invariant-loop-glob
invariant-loop-glob l = record {
  given : l.builder.given ≡ map (λ g. g.now) (take l.glob-index l.references);
  count : l.builder.count ≡ length l.references;
}
