use Rattle.std.proofs.Common.{sym, ◌∙◌}
use Rattle.glob_syntax.specs.Views.{tokens_of}
use Rattle.glob_strategy.specs.StrategyMeaning.{strategy_seen}
use Rattle.glob_strategy.proofs.lemmas.Strategies.{automaton_bytes, is_strategy, excluded_found, insensitive_found, sensitive_found}
use Rattle.glob_strategy.proofs.strategy.strategy_of.Goals as goal

pub returns-then-is_excluded : goal.returns-then-is_excluded
returns-then-is_excluded c = is_strategy c.args.options (tokens_of c.args.tokens.now) _ tt (excluded_found c.args.options (tokens_of c.args.tokens.now) (sym c.is_excluded.ensures ∙ c.if-is_excluded.true))

pub returns-then-options : goal.returns-then-options
returns-then-options c =
    is_strategy c.args.options (tokens_of c.args.tokens.now) _ (automaton_bytes c.args.options (tokens_of c.args.tokens.now) (strategy_seen c.automaton_strategy.result) c.automaton_strategy.ensures)
    (insensitive_found c.args.options (tokens_of c.args.tokens.now) _ (sym c.is_excluded.ensures ∙ c.if-is_excluded.false) c.if-options.true c.automaton_strategy.ensures)

pub returns : goal.returns
returns c =
    is_strategy c.args.options (tokens_of c.args.tokens.now) c.in_ok-strategy.strategy c.has_bytes.ensures
    (sensitive_found c.args.options (tokens_of c.args.tokens.now) _ (sym c.is_excluded.ensures ∙ c.if-is_excluded.false) c.if-options.false c.in_ok-strategy.ensures)
