use Rattle.std.proofs.Common.{◌≡◌, ◌++◌, drop}
use Rattle.std.specs.Prelude.{string_bytes}
use Rattle.glob_text.specs.RegexText.{bytes_text, char_text}
use Rattle.glob_text.proofs.regex_text.push_char.Given as goal

-- the text so far, and that of the bytes that are left
abbrev pub invariant-loop-byte : goal.invariant-loop-byte
invariant-loop-byte l = string_bytes l.text ++ bytes_text (drop l.byte-index l.byte-items) ≡ string_bytes l.fn.text ++ char_text l.fn.c
