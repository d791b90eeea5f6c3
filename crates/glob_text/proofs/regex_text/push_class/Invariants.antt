use Rattle.std.proofs.Common.{◌≡◌, ◌++◌, drop}
use Rattle.std.specs.Prelude.{string_bytes}
use Rattle.glob_text.specs.RegexText.{ranges_text}
use Rattle.glob_text.proofs.regex_text.push_class.Given as goal

-- the text so far, and that of the ranges that are left
abbrev pub invariant-loop-range : goal.invariant-loop-range
invariant-loop-range l = string_bytes l.text ++ ranges_text (drop l.range-index l.range-items) ≡ string_bytes l.initial.text ++ ranges_text l.range-items
