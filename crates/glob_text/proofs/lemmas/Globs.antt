-- Which paths a glob matches, by its tokens.
use Rattle.std.proofs.Common.{◌≡◌, ℕ, List, Result, Ok, Err, ap, sym}
use Rattle.std.specs.Str.{chars}
use Rattle.glob_syntax.specs.declared.parse_error_kind.ParseErrorKind.{ParseErrorKind}
use Rattle.glob_syntax.specs.Token.{Tokens, end}
use Rattle.glob_syntax.specs.Reading.{reading}
use Rattle.glob_text.specs.GlobMatches.{GlobValue, tokens_of_glob, glob_matches}
use Rattle.glob_syntax.specs.TokensMatch.{tokens_match}

pub tokens_are : (g : GlobValue) (ts : Tokens) → reading g.options (chars g.text) ≡ Ok ts → tokens_of_glob g ≡ ts
unfolding tokens_of_glob
tokens_are g ts h = ap (λ (r : Result Tokens ParseErrorKind). elim r as (λ _. Tokens) [ Ok us ↦ us | Err f ↦ end ]) h

-- the glob matches what the tokens of its text match
pub means_is : (g : GlobValue) (ts : Tokens) (path : List ℕ) → reading g.options (chars g.text) ≡ Ok ts → tokens_match g.options ts path ≡ glob_matches g path
unfolding glob_matches
means_is g ts path h = ap (λ us. tokens_match g.options us path) (sym (tokens_are g ts h))
