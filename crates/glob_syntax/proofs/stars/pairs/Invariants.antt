use Rattle.std.proofs.Common.{◌≡◌, ◌+◌, length}
use Rattle.glob_syntax.specs.Stars.{pairs}
use Rattle.glob_syntax.specs.inner.LexemeViews.{lexemes_of}
use Rattle.glob_syntax.proofs.stars.pairs.Given as goal

abbrev pub invariant-loop-rest : goal.invariant-loop-rest
invariant-loop-rest l = record {
  so_far : l.count + pairs (lexemes_of l.rest) ≡ pairs (lexemes_of l.lexemes);
  within : l.count + length l.rest ≡ length l.lexemes;
}

abbrev pub decreases-loop-rest : goal.decreases-loop-rest
decreases-loop-rest l = length l.rest
