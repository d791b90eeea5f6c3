use Rattle.std.proofs.Common.{◌∙◌}
use Rattle.globset.specs.SetValue.{set_globs}
use Rattle.globset.proofs.lemmas.Answer.{answer_of_none}
use Rattle.globset.proofs.set.GlobSet.matches_visits.Goals as goal

pub returns-in_default-clause-ok : goal.returns-in_default-clause-ok
returns-in_default-clause-ok c = c.clear.ensures.items ∙ answer_of_none (set_globs c.args.self.now) c.args.path.now (c.matcher.ensures.none c.in_default.is)
