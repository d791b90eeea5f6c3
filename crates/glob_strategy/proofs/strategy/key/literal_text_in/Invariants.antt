use Rattle.std.proofs.Common.{◌≡◌, ◌++◌, drop}
use Rattle.std.specs.Prelude.{string_bytes}
use Rattle.glob_syntax.specs.Views.{flats}
use Rattle.glob_strategy.specs.inner.FlatTests.{literal_text}
use Rattle.glob_strategy.proofs.strategy.key.literal_text_in.Given as goal

-- the text so far, and the bytes of the tokens that are left
abbrev pub invariant-loop-token : goal.invariant-loop-token
invariant-loop-token l = string_bytes l.text ++ literal_text (flats (drop l.token-index l.tokens)) ≡ literal_text (flats l.tokens)
