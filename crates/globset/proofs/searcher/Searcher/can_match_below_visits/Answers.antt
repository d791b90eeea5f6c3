use Rattle.std.proofs.Common.{ap, ◌∙◌}
use Rattle.globset.specs.SearcherValue.{SearcherValue}
use Rattle.globset.specs.SetValue.{set_globs}
use Rattle.globset.proofs.lemmas.Answer.{none_below, no_globs}
use Rattle.globset.proofs.searcher.Searcher.can_match_below_visits.Goals as goal

pub returns-in_default-clause-some : goal.returns-in_default-clause-some
returns-in_default-clause-some c =
    none_below (set_globs c.args.self.now.set) c.args.folder.now (no_globs c.in_default.is (c.self.invariant.same ∙ ap (λ (s : SearcherValue). s.set) c.self.view_is))
