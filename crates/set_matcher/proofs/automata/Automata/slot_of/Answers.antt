use Rattle.std.proofs.Common.{ap, ◌∙◌}
use Rattle.glob_path.specs.PathParts.{component_extension}
use Rattle.set_matcher.specs.inner.Automata.{AutomataParts, slot_of}
use Rattle.set_matcher.proofs.automata.Automata.slot_of.Goals as goal

pub returns-clause-slot : goal.returns-clause-slot
returns-clause-slot c =
    c.slot_of.ensures.slot
    ∙ ap (slot_of c.self.inside.extensions.slots) c.extension.ensures
    ∙ ap (λ (a : AutomataParts). slot_of a.extensions.slots (component_extension c.args.path.now)) c.self.view_is
