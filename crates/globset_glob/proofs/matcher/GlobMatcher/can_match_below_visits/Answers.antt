use Rattle.std.proofs.Common.{IsTrue, ap, subst, arith}
use Rattle.std.specs.Prelude.{◌↔◌}
use Rattle.glob_text.specs.GlobMatches.{GlobValue}
use Rattle.glob_text.specs.Cost.{max_visits_below}
use Rattle.globset_glob.specs.GlobBelow.{GlobMatchesBelow}
use Rattle.globset_glob.proofs.matcher.GlobMatcher.can_match_below_visits.Goals as goal

pub returns-clause-ok : goal.returns-clause-ok
returns-clause-ok c =
    subst (λ (g : GlobValue). IsTrue c.in_ok-can_match_below.field-0 ↔ GlobMatchesBelow g c.args.folder.now) c.self.view_is (c.in_ok-can_match_below.ensures.some c.self.inside.glob c.self.invariant)

pub returns-clause-visits : goal.returns-clause-visits
returns-clause-visits c =
    omega (arith, c.can_match_below.ensures.visits c.self.inside.glob c.self.invariant, ap (λ (g : GlobValue). max_visits_below g c.args.folder.now) c.self.view_is)

pub returns-in_err-can_match_below-clause-visits : goal.returns-in_err-can_match_below-clause-visits
returns-in_err-can_match_below-clause-visits c =
    omega (arith, c.can_match_below.ensures.visits c.self.inside.glob c.self.invariant, ap (λ (g : GlobValue). max_visits_below g c.args.folder.now) c.self.view_is)
