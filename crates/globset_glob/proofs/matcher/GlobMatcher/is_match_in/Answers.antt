use Rattle.std.proofs.Common.{ap, ◌∙◌, arith}
use Rattle.std.proofs.lemmas.Result.{IfOk-weaker}
use Rattle.glob_text.specs.GlobMatches.{GlobValue, glob_matches}
use Rattle.glob_text.specs.Cost.{max_visits}
use Rattle.globset_glob.proofs.matcher.GlobMatcher.is_match_in.Goals as goal

pub returns-clause-ok : goal.returns-clause-ok
returns-clause-ok c =
    IfOk-weaker c.is_match.result _ _ (λ yes some. some c.self.inside.glob c.self.invariant ∙ ap (λ (g : GlobValue). glob_matches g c.args.path.now) c.self.view_is) c.is_match.ensures.some

pub returns-clause-visits : goal.returns-clause-visits
returns-clause-visits c = omega (arith, c.is_match.ensures.visits c.self.inside.glob c.self.invariant, ap (λ (g : GlobValue). max_visits g c.args.path.now) c.self.view_is)
