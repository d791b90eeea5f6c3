use Rattle.set_matcher.proofs.literal_index.LiteralIndexBuilder.folders.Goals as goal

pub returns-then-has_others : goal.returns-then-has_others
returns-then-has_others c = c.has_others.ensures.0 c.if-has_others.true
