use Rattle.std.proofs.Common.{◌≡◌, ◌∷◌, arith}
use Rattle.std.proofs.lemmas.Grind.{common_steps}
use Rattle.c_objects.proofs.lemmas.Ends.{ends_part}
use Rattle.c_objects.proofs.lemmas.ManyIndexes.{skip}
use Rattle.c_objects.proofs.searchers.find_last.Goals as goal

pub each-preserved : goal.each-preserved
each-preserved c =
    let is : c.each.rest.now ≡ c.in-Some.end.now ∷ c.in-Some.tail.now = grind (arith, common_steps) in (
      skip _ _ _ _ _ _ _ _ _ is c.is_empty.ensures c.if-is_empty.false c.each.invariant.0,
      (ends_part _ _ _ _ _ is c.each.invariant.1).2,
      c.each.invariant.2,
    )
