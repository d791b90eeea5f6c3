use Rattle.std.proofs.Common.{◌≡◌, drop}
use Rattle.glob_syntax.specs.Views.{flats}
use Rattle.glob_strategy.specs.TokenTests.{is_literal_except}
use Rattle.glob_strategy.specs.inner.FlatTests.{all_simple_pass}
use Rattle.glob_strategy.proofs.strategy.conditions.are_literals_except.Given as goal

-- all tokens pass if those that are left do
abbrev pub invariant-loop-token : goal.invariant-loop-token
invariant-loop-token l =
    all_simple_pass (is_literal_except l.excluded) (flats (drop l.token-index l.tokens)) ≡ all_simple_pass (is_literal_except l.excluded) (flats l.tokens)
