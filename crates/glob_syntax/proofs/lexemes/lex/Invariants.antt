use Rattle.std.proofs.Common.{◌≡◌, ◌+◌, ◌≤◌, zero, length, drop, IsFalse}
use Rattle.glob_syntax.specs.Lexemes.{lexemes}
use Rattle.glob_syntax.specs.Nesting.{nested}
use Rattle.glob_syntax.specs.inner.LexemeViews.{NoCloser, lexemes_of}
use Rattle.glob_syntax.proofs.lemmas.Lexemes.{with_front}
use Rattle.glob_syntax.proofs.lexemes.lex.Given as goal

abbrev pub invariant-loop-rest : goal.invariant-loop-rest
invariant-loop-rest l = record {
  read : with_front (lexemes_of l.out.items) (nested l.depth (lexemes l.options zero l.rest)) ≡ nested zero (lexemes l.options zero l.text);
  known : IsFalse l.closable → NoCloser (drop 2 l.rest);
  fits : l.depth + length l.rest ≤ length l.text;
}

abbrev pub decreases-loop-rest : goal.decreases-loop-rest
decreases-loop-rest l = length l.rest
