use Rattle.set_matcher.proofs.lemmas.ExtensionSlots.{slots_added}
use Rattle.set_matcher.proofs.automata.matchers.insert.Goals as goal

pub returns-clause-has : goal.returns-clause-has
returns-clause-has c =
    slots_added _ _ c.args.extension c.args.slot _ _ c.in_ok-insert-2.ensures.updates c.requires.has c.requires.none (rw c.deref.ensures.value at c.in_ok-insert.ensures.ok)
