use Rattle.std.proofs.Common.{◌≡◌, ap, ◌∙◌, subst, arith}
use Rattle.std.specs.Prelude.{IfOk}
use Rattle.glob_text.specs.GlobMatches.{GlobValue, glob_matches}
use Rattle.glob_text.specs.Cost.{max_visits}
use Rattle.globset_glob.specs.inner.GlobNfa.{IsStrategyOfMatcher}
use Rattle.globset_glob.proofs.matcher.MatcherSearcher.is_match_visits.Goals as goal

pub returns-clause-matches : goal.returns-clause-matches
returns-clause-matches c =
    let some = subst (λ r. IfOk r (λ yes. (g : GlobValue) → IsStrategyOfMatcher g c.self.inside.strategy → yes ≡ glob_matches g c.args.path.now)) c.unwrap.ensures c.is_match.ensures.some in
    some c.self.inside.matcher c.self.invariant.0 ∙ ap (λ (g : GlobValue). glob_matches g c.args.path.now) c.self.view_is

pub returns-clause-visits : goal.returns-clause-visits
returns-clause-visits c = omega (arith, c.is_match.ensures.visits c.self.inside.matcher c.self.invariant.0, ap (λ (g : GlobValue). max_visits g c.args.path.now) c.self.view_is)
