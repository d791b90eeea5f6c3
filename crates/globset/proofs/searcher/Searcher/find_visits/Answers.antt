use Rattle.std.proofs.Common.{ap, ◌∙◌}
use Rattle.globset.specs.SearcherValue.{SearcherValue}
use Rattle.globset.specs.SetValue.{set_globs}
use Rattle.globset.proofs.lemmas.Answer.{answer_of_none, no_globs}
use Rattle.globset.proofs.searcher.Searcher.find_visits.Goals as goal

pub returns-in_default-clause-found : goal.returns-in_default-clause-found
returns-in_default-clause-found c =
    c.clear.ensures.items
    ∙ answer_of_none (set_globs c.args.self.now.set) c.args.path.now (no_globs c.in_default.is (c.self.invariant.same ∙ ap (λ (s : SearcherValue). s.set) c.self.view_is))
