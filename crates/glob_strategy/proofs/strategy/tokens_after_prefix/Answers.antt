use Rattle.std.proofs.Common.{refl, sym, ◌∙◌}
use Rattle.glob_strategy.proofs.lemmas.FlatTests.{other_kept}
use Rattle.glob_strategy.proofs.strategy.tokens_after_prefix.Goals as goal

pub returns-clause-tokens : goal.returns-clause-tokens
returns-clause-tokens c =
    other_kept c.args.tokens.now c.in-Some.first.now c.in-Some.rest.now _ c.in-Some.ensures.cases.0 c.requires refl
    (sym c.is_recursive_prefix.ensures ∙ c.if-is_recursive_prefix.false)
