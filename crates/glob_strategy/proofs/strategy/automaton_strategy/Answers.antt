use Rattle.std.proofs.Common.{refl}
use Rattle.glob_syntax.specs.Views.{flats}
use Rattle.glob_strategy.proofs.lemmas.FlatTests.{by_last_component_same}
use Rattle.glob_strategy.proofs.lemmas.Strategies.{row_fits, row_fails}
use Rattle.glob_strategy.proofs.strategy.automaton_strategy.Goals as goal

pub returns-then-is_by_last_component : goal.returns-then-is_by_last_component
returns-then-is_by_last_component c =
    row_fits _ _ (by_last_component_same c.args.options (flats c.args.tokens.now) c.requires) c.is_by_last_component.ensures c.if-is_by_last_component.true refl

pub returns-else-is_by_last_component : goal.returns-else-is_by_last_component
returns-else-is_by_last_component c =
    row_fails _ _ (by_last_component_same c.args.options (flats c.args.tokens.now) c.requires) c.is_by_last_component.ensures c.if-is_by_last_component.false refl
