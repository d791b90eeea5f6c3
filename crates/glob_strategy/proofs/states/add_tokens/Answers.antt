use Rattle.glob_syntax.specs.Views.{tokens_of}
use Rattle.glob_strategy.proofs.lemmas.IndexedTokens.{one_more, still_for}
use Rattle.byte_nfa.proofs.lemmas.Pushing.{on_err}
use Rattle.glob_strategy.proofs.states.add_tokens.Goals as goal

pub returns-clause-tokens : goal.returns-clause-tokens
returns-clause-tokens c = λ xs before.
    one_more c.args.options (tokens_of c.args.tokens.now) c.args.index c.args.builder.now c.add_whole.new.builder c.add_start.new.self c.in_ok-start.start xs
    c.add_whole.ensures.grows c.in_ok-start.ensures.builds c.in_ok-add_start.ensures.states c.in_ok-add_start.ensures.starts before

pub returns-in_err-start-clause-kept : goal.returns-in_err-start-clause-kept
returns-in_err-start-clause-kept c = on_err c.from_residual.result (λ xs before. still_for c.args.builder.now c.add_whole.new.builder xs c.add_whole.ensures.grows before)

pub returns-in_err-add_start-clause-kept : goal.returns-in_err-add_start-clause-kept
returns-in_err-add_start-clause-kept c =
    rw c.in_err-add_start.ensures.unchanged (on_err c.from_residual-in_err-add_start.result (λ xs before. still_for c.args.builder.now c.add_whole.new.builder xs c.add_whole.ensures.grows before))
