use Rattle.std.proofs.Common.{◌≡◌, ◌+◌, ◌≤◌, zero, length, drop, encode_utf8_all, IsFalse}
use Rattle.glob_syntax.specs.inner.LexemeViews.{NoCloser}
use Rattle.glob_syntax.specs.ErrorOffset.{lexemes_from, error_from, first_error}
use Rattle.glob_syntax.proofs.reading.from_error.Given as goal

abbrev pub invariant-loop-rest : goal.invariant-loop-rest
invariant-loop-rest l = record {
  found : error_from l.depth l.outer (lexemes_from l.options zero l.rest) ≡ first_error l.options l.text;
  known : IsFalse l.closable → NoCloser (drop 2 l.rest);
  fits : l.depth + length l.rest ≤ length l.text;
  outer_within : length (encode_utf8_all l.outer) ≤ length (encode_utf8_all l.text);
  rest_within : length (encode_utf8_all l.rest) ≤ length (encode_utf8_all l.text);
}

abbrev pub decreases-loop-rest : goal.decreases-loop-rest
decreases-loop-rest l = length l.rest
