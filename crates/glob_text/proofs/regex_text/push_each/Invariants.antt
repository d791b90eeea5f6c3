use Rattle.std.proofs.Common.{◌++◌, drop, reverse}
use Rattle.std.specs.Prelude.{string_bytes}
use Rattle.glob_syntax.specs.Views.{flats, tokens_of}
use Rattle.glob_text.specs.RegexText.{tokens_text}
use Rattle.glob_text.specs.inner.RegexWriting.{Writes}
use Rattle.glob_text.proofs.regex_text.push_each.Given as goal

-- the text so far, and that of the tokens that are left
abbrev pub invariant-loop-token : goal.invariant-loop-token
invariant-loop-token l = Writes l.options (string_bytes l.fn.text ++ tokens_text l.options (tokens_of l.tokens)) (string_bytes l.text) l.kept
    (reverse l.groups.items) (flats (drop l.token-index l.tokens))
