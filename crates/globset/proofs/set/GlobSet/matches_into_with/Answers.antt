use Rattle.std.proofs.Common.{◌∙◌}
use Rattle.globset.specs.SetValue.{set_globs}
use Rattle.globset.proofs.lemmas.Answer.{answer_of_none}
use Rattle.engine.proofs.lemmas.Memory.{fits_any}
use Rattle.globset.proofs.set.GlobSet.matches_into_with.Goals as goal

pub returns-in_default-clause-ok : goal.returns-in_default-clause-ok
returns-in_default-clause-ok c = c.clear.ensures.items ∙ answer_of_none (set_globs c.args.self.now) c.args.path.now (c.matcher.ensures.none c.in_default.is)

pub find-requires : goal.find-requires
find-requires c = λ slot. fits_any c.scratch.inside.memory slot _ c.scratch.invariant.1.1
