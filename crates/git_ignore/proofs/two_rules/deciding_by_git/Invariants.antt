use Rattle.std.proofs.Common.{◌≡◌, take}
use Rattle.std.specs.Prelude.{None}
use Rattle.git_ignore.specs.TwoRules.{ignored_above}
use Rattle.git_ignore.proofs.two_rules.deciding_by_git.Given as goal

abbrev pub invariant-loop-end : goal.invariant-loop-end
invariant-loop-end g l = record {
  scratch : l.scratch ≡ l.fn.scratch;
  above : ignored_above (g.R.DecidesAlone.alone l.rules) (take l.end l.path) ≡ None;
}
