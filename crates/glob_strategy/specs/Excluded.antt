-- Tokens of excluded globs, which a set leaves out.
use Rattle.std.specs.Prelude.{ℕ, Bool, false, ◌&&◌, not, ◌==◌, List}
use Rattle.glob_syntax.specs.Token.{Token, Literal, Tokens, end, and_then}
use Rattle.glob_syntax.specs.declared.options.Options.{Options}
use Rattle.glob_syntax.specs.TokensMatch.{is_prefix, tokens_match}

-- The token is the literal `.`, whose code is 46. The class `[.]` is another token.
abbrev pub is_dot : Token → Bool
is_dot (Literal c) = c == 46
is_dot t = false

-- The tokens are RecursivePrefix, the literal `.` and the literal `.`, and no more. `**/..`, `**/**/..` and `**/\..`
-- all have these tokens.
abbrev pub is_prefix_dot_dot : Tokens → Bool
is_prefix_dot_dot (and_then t (and_then u (and_then v end))) = is_prefix t && (is_dot u && is_dot v)
is_prefix_dot_dot _ = false

-- A glob with these tokens is excluded under the options: no set returns its index, for any path. `**/[.][.]` matches the
-- same paths as `**/..`, but has other tokens, and is not excluded.
abbrev pub are_excluded : Options → Tokens → Bool
are_excluded o ts = not o.case_insensitive && is_prefix_dot_dot ts

-- The glob is not excluded and matches the path. Only then does a set return its index.
abbrev pub are_reported : Options → Tokens → List ℕ → Bool
are_reported o ts path = not (are_excluded o ts) && tokens_match o ts path
