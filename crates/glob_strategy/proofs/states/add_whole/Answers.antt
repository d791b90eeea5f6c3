use Rattle.std.proofs.Common.{sym, ◌∙◌}
use Rattle.glob_syntax.specs.Views.{tokens_of}
use Rattle.glob_strategy.proofs.lemmas.IndexedTokens.{whole_built, everything_built}
use Rattle.glob_strategy.proofs.states.add_whole.Goals as goal

pub returns-in_ok-every-clause-builds : goal.returns-in_ok-every-clause-builds
returns-in_ok-every-clause-builds c =
    everything_built c.args.options (tokens_of c.args.tokens.now) c.args.index c.args.builder.now c.push_match.new.self c.push_loop.new.self c.everything.result c.in_ok-every.every c.in_ok-end.end
    (sym c.is_prefix_alone.ensures ∙ c.if-is_prefix_alone.true) c.in_ok-end.ensures.pushed c.in_ok-every.ensures.pushed c.everything.ensures

pub returns-in_ok-start-clause-builds : goal.returns-in_ok-start-clause-builds
returns-in_ok-start-clause-builds c =
    whole_built c.args.options (tokens_of c.args.tokens.now) c.args.index c.args.builder.now c.push_match.new.self c.add_sequence.new.builder c.in_ok-start.start c.in_ok-end.end
    (sym c.is_prefix_alone.ensures ∙ c.if-is_prefix_alone.false) c.in_ok-end.ensures.pushed c.add_sequence.ensures.grows c.in_ok-start.ensures.builds
