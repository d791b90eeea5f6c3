use Rattle.std.proofs.Common.{IsTrue, ap, subst, arith}
use Rattle.std.specs.Prelude.{◌↔◌, IfOk}
use Rattle.glob_text.specs.GlobMatches.{GlobValue}
use Rattle.glob_text.specs.Cost.{max_visits_below}
use Rattle.globset_glob.specs.GlobBelow.{GlobMatchesBelow}
use Rattle.globset_glob.specs.inner.GlobNfa.{IsStrategyOfMatcher}
use Rattle.globset_glob.proofs.matcher.MatcherSearcher.can_match_below_visits.Goals as goal

pub returns-clause-some : goal.returns-clause-some
returns-clause-some c =
    let some = subst (λ r. IfOk r (λ yes. (g : GlobValue) → IsStrategyOfMatcher g c.self.inside.strategy → IsTrue yes ↔ GlobMatchesBelow g c.args.folder.now)) c.unwrap.ensures c.can_match_below.ensures.some in
    subst (λ (g : GlobValue). IsTrue c.unwrap.result ↔ GlobMatchesBelow g c.args.folder.now) c.self.view_is (some c.self.inside.matcher c.self.invariant.0)

pub returns-clause-visits : goal.returns-clause-visits
returns-clause-visits c =
    omega (arith, c.can_match_below.ensures.visits c.self.inside.matcher c.self.invariant.0, ap (λ (g : GlobValue). max_visits_below g c.args.folder.now) c.self.view_is)
