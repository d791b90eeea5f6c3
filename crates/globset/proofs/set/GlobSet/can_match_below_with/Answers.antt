use Rattle.globset.specs.SetValue.{set_globs}
use Rattle.globset.proofs.lemmas.Answer.{none_below}
use Rattle.engine.proofs.lemmas.Memory.{fits_any}
use Rattle.globset.proofs.set.GlobSet.can_match_below_with.Goals as goal

pub returns-in_default-clause-some : goal.returns-in_default-clause-some
returns-in_default-clause-some c = none_below (set_globs c.args.self.now) c.args.folder.now (c.matcher.ensures.none c.in_default.is)

pub can_match_below-requires : goal.can_match_below-requires
can_match_below-requires c = λ slot. fits_any c.scratch.inside.memory slot _ c.scratch.invariant.1.1
