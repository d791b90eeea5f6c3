use Rattle.std.proofs.Common.{rules, ap}
use Rattle.glob_text.specs.GlobMatches.{GlobValue, glob_matches}
use Rattle.glob_text.proofs.lemmas.GlobEquality.{equal_globs}
use Rattle.globset_glob.proofs.glob.GlobPartialEq.eq.Goals as goal

pub returns-then-eq-clause-paths : goal.returns-then-eq-clause-paths
returns-then-eq-clause-paths c = λ is path. ap (λ (g : GlobValue). glob_matches g path) ((equal_globs c.args.self.now c.args.other.now c.eq-then-eq.result (search rules)).0 is)
