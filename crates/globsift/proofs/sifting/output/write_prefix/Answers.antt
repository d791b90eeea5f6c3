use Rattle.std.proofs.Common.{arith, ◌++◌, take}
use Rattle.std.proofs.lemmas.Grind.{common_steps}
use Rattle.std.proofs.KnownBytes.{Appends-trans}
use Rattle.globsift.proofs.sifting.output.write_prefix.Goals as goal

pub loop-rest-preserved : goal.loop-rest-preserved
loop-rest-preserved g c =
    let i = c.loop-rest.invariant in
    (i.0 ++ take c.in-Ok.n c.loop-rest.rest.now, grind (arith, common_steps), Appends-trans _ _ _ _ _ i.2 c.in-Ok.ensures.bytes)
