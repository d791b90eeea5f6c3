use Rattle.std.proofs.Common.{List, ℕ, IfOk, length, subst, ◌∙◌}
use Rattle.std.specs.Prelude.{◌↔◌, IsTrue}
use Rattle.set_matcher.specs.Answer.{matching_indexes}
use Rattle.globset.specs.SetValue.{set_globs}
use Rattle.set_matcher.specs.Indexes.{ContainsAllBelow}
use Rattle.globset.proofs.set.GlobSet.matches_all.Goals as goal

pub returns-clause-ok : goal.returns-clause-ok
returns-clause-ok g c =
    subst (λ (path : List ℕ). IfOk c.matches_all_candidate.result (λ yes. IsTrue yes ↔ ContainsAllBelow (matching_indexes (set_globs c.args.self.now) path) (length (set_globs c.args.self.now))))
    (c.new.ensures ∙ c.path_text.ensures) c.matches_all_candidate.ensures.ok
