use Rattle.std.proofs.Common.{subst}
use Rattle.glob_syntax.specs.Views.{tokens_of}
use Rattle.glob_text.proofs.lemmas.Globs.{tokens_are}
use Rattle.glob_strategy.proofs.lemmas.Keys.{decided}
use Rattle.glob_strategy.specs.StrategyMeaning.{IsStrategyOf}
use Rattle.glob_strategy.specs.declared.strategy.MatchStrategy.{MatchStrategy}
use Rattle.globset_glob.proofs.matcher.Strategy.of.Goals as goal

pub returns-in-Key : goal.returns-in-Key
returns-in-Key c =
    let g = c.args.glob.now in
    let tokens = tokens_are g (tokens_of c.flat_tokens_of.result.now) c.flat_tokens_of.ensures.read in
    let is = subst (λ (s : MatchStrategy). IsStrategyOf c.options_of.result (tokens_of c.flat_tokens_of.result.now) s) c.in-Key.is c.in_ok-key.ensures in
    rw (tokens, ← c.options_of.ensures) (decided c.options_of.result (tokens_of c.flat_tokens_of.result.now) c.in-Key.key is)
