use Rattle.std.proofs.Common.{refl, arith}
use Rattle.glob_path.proofs.lemmas.Standing.{finished}
use Rattle.glob_path.proofs.tree.Tree.build.Goals as goal

pub returns-clause-tree : goal.returns-clause-tree
returns-clause-tree c = (finished c.args.texts.now c.longest-longest.result c.loop-least.least c.loop-least.level.items c.loop-least.tree _ c.longest-longest.ensures.within
    (omega (arith, c.loop-least-test.false)) c.loop-least.invariant.spans c.loop-least.invariant.stands c.shrink_to_fit.ensures.items c.shrink_to_fit-2.ensures.items c.shrink_to_fit-3.ensures.items refl).0

pub returns-clause-leads : goal.returns-clause-leads
returns-clause-leads c = (finished c.args.texts.now c.longest-longest.result c.loop-least.least c.loop-least.level.items c.loop-least.tree
    (record { nodes = c.shrink_to_fit.new.self; runs = c.shrink_to_fit-2.new.self; bytes = c.shrink_to_fit-3.new.self; indexes = c.loop-least.tree.indexes }) c.longest-longest.ensures.within
    (omega (arith, c.loop-least-test.false)) c.loop-least.invariant.spans c.loop-least.invariant.stands c.shrink_to_fit.ensures.items c.shrink_to_fit-2.ensures.items c.shrink_to_fit-3.ensures.items refl).1
