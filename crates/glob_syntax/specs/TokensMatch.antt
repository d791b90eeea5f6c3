-- Which paths the tokens of a whole glob match. A path is a list of bytes.
use Rattle.std.specs.Prelude.{ℕ, Bool, true, false, ◌||◌, List}
use Rattle.glob_syntax.specs.declared.options.Options.{Options}
use Rattle.glob_syntax.specs.Token.{Token, RecursivePrefix, Tokens, end, and_then}
use Rattle.glob_syntax.specs.TokenMatches.{tokens_match_each}

-- the token is RecursivePrefix
abbrev pub is_prefix : Token → Bool
is_prefix RecursivePrefix = true
is_prefix _ = false

-- RecursivePrefix is the only token
abbrev pub is_prefix_alone : Tokens → Bool
is_prefix_alone (and_then t end) = is_prefix t
is_prefix_alone _ = false

-- The tokens of a whole glob match the path. RecursivePrefix alone, as in `**` and `**/`, matches every path. Other tokens match
-- a path if they match it in order.
abbrev pub tokens_match : Options → Tokens → List ℕ → Bool
tokens_match o ts path = is_prefix_alone ts || tokens_match_each o ts path
