use Rattle.glob_syntax.proofs.lemmas.TokenLists.{more_than_one}
use Rattle.glob_syntax.proofs.token.is_prefix_alone.Goals as goal

pub returns-in_default-3 : goal.returns-in_default-3
returns-in_default-3 c = more_than_one c.args.tokens.now c.requires c.in_default.len_at_least
