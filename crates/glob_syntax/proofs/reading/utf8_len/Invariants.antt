use Rattle.std.proofs.Common.{◌≡◌, ◌+◌, drop, length, encode_utf8_all}
use Rattle.glob_syntax.proofs.reading.utf8_len.Given as goal

abbrev pub invariant-loop-c : goal.invariant-loop-c
invariant-loop-c l = l.len + length (encode_utf8_all (drop l.c-index l.characters)) ≡ length (encode_utf8_all l.characters)
