use Rattle.glob_syntax.specs.Views.{tokens_of}
use Rattle.glob_text.proofs.lemmas.Globs.{tokens_are}
use Rattle.globset_glob.proofs.glob.flat_tokens_of.Goals as goal

pub returns-clause-tokens : goal.returns-clause-tokens
returns-clause-tokens c = rw c.deref.ensures.value (tokens_are c.args.glob.now (tokens_of c.glob.inside.tokens.items) (rw (← c.glob.view_is) c.glob.invariant.read))
