use Rattle.std.proofs.Common.{length, true, []}
use Rattle.glob_syntax.specs.Views.{flats}
use Rattle.glob_syntax.specs.inner.LexemeViews.{lexemes_of}
use Rattle.glob_syntax.specs.inner.TokenReading.{ReadsTo}
use Rattle.glob_syntax.proofs.groups.tokens.Given as goal

abbrev pub invariant-loop-rest : goal.invariant-loop-rest
invariant-loop-rest l = ReadsTo [] true (lexemes_of l.lexemes) (flats l.tokens.items) l.start (lexemes_of l.rest)

abbrev pub decreases-loop-rest : goal.decreases-loop-rest
decreases-loop-rest l = length l.rest
