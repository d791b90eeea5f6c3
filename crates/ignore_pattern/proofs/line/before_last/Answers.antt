use Rattle.std.proofs.Common.{sym}
use Rattle.ignore_pattern.proofs.lemmas.Ends.{last_is, last_is_not}
use Rattle.ignore_pattern.proofs.line.before_last.Goals as goal

pub returns-then-c-last-clause-some : goal.returns-then-c-last-clause-some
returns-then-c-last-clause-some c = let r = last_is c.args.c c.args.cs.now c.in-len1-up.len_at_least c.if-c-last.true in (r.0, sym r.1)

pub returns-else-c-last-clause-none : goal.returns-else-c-last-clause-none
returns-else-c-last-clause-none c = last_is_not c.args.c c.args.cs.now c.in-len1-up.len_at_least c.if-c-last.false
