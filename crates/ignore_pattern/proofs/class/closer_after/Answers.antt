use Rattle.std.proofs.Common.{◌==◌, sym, ◌∙◌, arith}
use Rattle.ignore_pattern.proofs.lemmas.Closers.{still_after, none_after}
use Rattle.ignore_pattern.proofs.class.closer_after.Goals as goal

pub returns-in-None : goal.returns-in-None
returns-in-None c = none_after (λ d. d == 93) c.args.count c.args.cs.now (sym c.in-None.is ∙ c.requires.known) c.requires.within

pub returns-in-Some : goal.returns-in-Some
returns-in-Some c = still_after (λ d. d == 93) c.args.count c.args.cs.now c.in-Some.at (sym c.in-Some.is ∙ c.requires.known) (omega arith)
