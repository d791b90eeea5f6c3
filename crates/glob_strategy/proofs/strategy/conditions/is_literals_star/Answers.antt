use Rattle.std.proofs.Common.{ap, sym, ◌∙◌}
use Rattle.glob_syntax.specs.Views.{flats}
use Rattle.glob_strategy.specs.TokenTests.{is_literal_except, is_star}
use Rattle.glob_strategy.specs.inner.FlatTests.{all_simple_pass}
use Rattle.glob_strategy.proofs.lemmas.FlatTests.{last_passes, last_fails}
use Rattle.glob_strategy.proofs.strategy.conditions.is_literals_star.Goals as goal

pub returns-then-is_star : goal.returns-then-is_star
returns-then-is_star c =
    c.are_literals_except.ensures ∙ ap (λ x. all_simple_pass (is_literal_except x) (flats c.in-Some.before.now)) c.as_slice.ensures
    ∙ last_passes is_star c.args.tokens.now c.in-Some.before.now c.in-Some.last.now c.in-Some.ensures.cases.0 (sym c.is_star.ensures ∙ c.if-is_star.true)

pub returns-else-is_star : goal.returns-else-is_star
returns-else-is_star c =
    c.if-is_star.false ∙ last_fails is_star c.args.tokens.now c.in-Some.before.now c.in-Some.last.now c.in-Some.ensures.cases.0 (sym c.is_star.ensures ∙ c.if-is_star.false)
