use Rattle.globset.specs.SetValue.{set_globs}
use Rattle.globset.proofs.lemmas.Answer.{none_below}
use Rattle.globset.proofs.set.GlobSet.can_match_below_visits.Goals as goal

pub returns-in_default-clause-ok : goal.returns-in_default-clause-ok
returns-in_default-clause-ok c = none_below (set_globs c.args.self.now) c.args.folder.now (c.matcher.ensures.none c.in_default.is)
