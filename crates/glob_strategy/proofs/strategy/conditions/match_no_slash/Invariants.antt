use Rattle.std.proofs.Common.{◌≡◌, drop}
use Rattle.glob_syntax.specs.Views.{flats}
use Rattle.glob_strategy.specs.Strategies.{matches_no_slash}
use Rattle.glob_strategy.specs.inner.FlatTests.{all_simple_pass}
use Rattle.glob_strategy.proofs.strategy.conditions.match_no_slash.Given as goal

-- all tokens pass if those that are left do
abbrev pub invariant-loop-token : goal.invariant-loop-token
invariant-loop-token l = all_simple_pass (matches_no_slash l.options) (flats (drop l.token-index l.tokens)) ≡ all_simple_pass (matches_no_slash l.options) (flats l.tokens)
