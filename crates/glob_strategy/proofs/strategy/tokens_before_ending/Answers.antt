use Rattle.std.proofs.Common.{sym, ◌∙◌}
use Rattle.glob_syntax.specs.Views.{flats, tokens_of}
use Rattle.glob_strategy.proofs.lemmas.BeforeEnding.{tokens_cut, no_ending_before}
use Rattle.glob_strategy.proofs.lemmas.Endings.{ending_same}
use Rattle.glob_strategy.proofs.strategy.tokens_before_ending.Goals as goal

pub returns-in-Some-clause-tokens : goal.returns-in-Some-clause-tokens
returns-in-Some-clause-tokens c = (tokens_cut c.args.tokens.now c.in-Some.last.now c.requires c.in-Some.ensures.last).0

pub returns-in-Some-clause-nested : goal.returns-in-Some-clause-nested
returns-in-Some-clause-nested c = (tokens_cut c.args.tokens.now c.in-Some.last.now c.requires c.in-Some.ensures.last).1

pub returns-in-None-clause-tokens : goal.returns-in-None-clause-tokens
returns-in-None-clause-tokens c = sym (no_ending_before (tokens_of c.args.tokens.now) (sym (c.in-None.ensures.text ∙ ending_same (flats c.args.tokens.now) c.requires)))
