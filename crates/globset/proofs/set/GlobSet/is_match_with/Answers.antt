use Rattle.globset.specs.SetValue.{set_globs}
use Rattle.globset.proofs.lemmas.Answer.{none_of_none}
use Rattle.engine.proofs.lemmas.Memory.{fits_any}
use Rattle.globset.proofs.set.GlobSet.is_match_with.Goals as goal

pub returns-in_default-clause-some : goal.returns-in_default-clause-some
returns-in_default-clause-some c = none_of_none (set_globs c.args.self.now) c.args.path.now (c.matcher.ensures.none c.in_default.is)

pub is_match-requires : goal.is_match-requires
is_match-requires c = λ slot. fits_any c.scratch.inside.memory slot _ c.scratch.invariant.1.1
