use Rattle.std.proofs.Common.{string_bytes, ◌≡◌, encode_utf8_all}
use Rattle.glob_text.specs.Escape.{escaped_chars}
use Rattle.glob_text.proofs.escaping.escape.Given as goal

abbrev pub invariant-loop-c : goal.invariant-loop-c
invariant-loop-c l = string_bytes l.out ≡ encode_utf8_all (escaped_chars l.yielded)
