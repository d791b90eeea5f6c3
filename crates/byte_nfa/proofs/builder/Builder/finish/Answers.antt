use Rattle.std.proofs.Common.{◌∙◌}
use Rattle.byte_nfa.proofs.builder.Builder.finish.Goals as goal

pub returns : goal.returns
returns c =
    c.from_parts.ensures
    ∙ rw (c.shrink_to_fit.ensures.items, c.shrink_to_fit-2.ensures.items, c.shrink_to_fit-3.ensures.items, c.shrink_to_fit-4.ensures.items, c.into_vec-sets.ensures) c.self.view_is
