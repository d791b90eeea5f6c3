use Rattle.std.proofs.Common.{IsTrue, length, subst}
use Rattle.std.specs.Prelude.{◌↔◌}
use Rattle.set_matcher.specs.Answer.{matching_indexes}
use Rattle.set_matcher.specs.Indexes.{ContainsAllBelow}
use Rattle.globset.specs.SetValue.{SetValue, set_globs}
use Rattle.globset.proofs.set.GlobSet.matches_all_visits.Goals as goal

pub returns-clause-ok : goal.returns-clause-ok
returns-clause-ok c =
    subst (λ (s : SetValue). IsTrue c.in_ok-matches_all.field-0 ↔ ContainsAllBelow (matching_indexes (set_globs s) c.args.path.now) (length (set_globs s))) c.in-Some.ensures.set c.in_ok-matches_all.ensures.all
