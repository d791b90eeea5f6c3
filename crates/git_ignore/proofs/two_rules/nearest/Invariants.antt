use Rattle.std.proofs.Common.{◌≡◌, take}
use Rattle.git_ignore.specs.TwoRules.{deciding}
use Rattle.git_ignore.specs.declared.decision.DecideBy.TheVariants.{Nearest}
use Rattle.git_ignore.proofs.lemmas.TwoRules.{rule_above}
use Rattle.git_ignore.proofs.two_rules.nearest.Given as goal

abbrev pub invariant-loop-end : goal.invariant-loop-end
invariant-loop-end g l = record {
  scratch : l.scratch ≡ l.fn.scratch;
  rest : rule_above (g.R.DecidesAlone.alone l.rules) (take l.end l.path) ≡ deciding Nearest (g.R.DecidesAlone.alone l.rules) l.path l.is_folder;
}
