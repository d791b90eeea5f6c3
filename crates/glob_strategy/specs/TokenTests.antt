-- Tests of a glob's tokens, for the definition of direct globs.
use Rattle.std.specs.Prelude.{ℕ, Bool, true, false, not, ◌&&◌, ◌||◌, ◌==◌, List, [], ◌∷◌, ◌++◌, Option, Some, None, if◌then◌else◌, encode_utf8}
use Rattle.std.specs.List.{list_any}
use Rattle.glob_syntax.specs.declared.options.Options.{Options}
use Rattle.glob_syntax.specs.Token.{Token, Literal, ZeroOrMore, RecursiveSuffix, Tokens, end, and_then}
use Rattle.glob_syntax.specs.TokenMatches.{slash}
use Rattle.glob_syntax.specs.TokensMatch.{is_prefix, is_prefix_alone}
use Rattle.glob_strategy.specs.Excluded.{is_dot}

-- the token is `*`
abbrev pub is_star : Token → Bool
is_star ZeroOrMore = true
is_star t = false

-- the token is RecursiveSuffix
abbrev pub is_suffix : Token → Bool
is_suffix RecursiveSuffix = true
is_suffix t = false

-- the token is a literal, and its character is not in the list
abbrev pub is_literal_except : List ℕ → Token → Bool
is_literal_except excluded (Literal c) = not (list_any (λ d. d == c) excluded)
is_literal_except excluded t = false

-- there is a token
abbrev pub has_tokens : Tokens → Bool
has_tokens end = false
has_tokens (and_then t ts) = true

-- each token passes the test
abbrev pub all_pass : (Token → Bool) → Tokens → Bool
all_pass test end = true
all_pass test (and_then t ts) = test t && all_pass test ts

-- one or more tokens, and each passes the test
abbrev pub some_all_pass : (Token → Bool) → Tokens → Bool
some_all_pass test ts = has_tokens ts && all_pass test ts

-- the first token passes the first test, and the tokens after it the second
abbrev pub first_and_rest : (Token → Bool) → (Tokens → Bool) → Tokens → Bool
first_and_rest test rest end = false
first_and_rest test rest (and_then t ts) = test t && rest ts

-- literals, perhaps none
abbrev pub are_literals : Tokens → Bool
are_literals ts = all_pass (is_literal_except []) ts

-- literals, perhaps none, and then a last token that passes the test
abbrev pub literals_and_last : (Token → Bool) → Tokens → Bool
literals_and_last test end = false
literals_and_last test (and_then t end) = test t
literals_and_last test (and_then t (and_then u ts)) = is_literal_except [] t && literals_and_last test (and_then u ts)

-- the bytes of the tokens that are literals, in order, in UTF-8
abbrev pub literal_text : Tokens → List ℕ
literal_text end = []
literal_text (and_then (Literal c) ts) = encode_utf8 c ++ literal_text ts
literal_text (and_then t ts) = literal_text ts

-- the tokens are a literal `.` and any literals other than `.` and `/`
abbrev pub is_extension : Tokens → Bool
is_extension ts = first_and_rest is_dot (all_pass (is_literal_except (46 ∷ slash ∷ []))) ts

-- The bytes of the last tokens, if these are such an extension. Such an extension can only begin at the last literal `.`.
abbrev pub ending : Tokens → Option (List ℕ)
ending end = None
ending (and_then t ts) = if is_extension (and_then t ts) then Some (literal_text (and_then t ts)) else ending ts

-- one or more literals
abbrev pub is_whole_path : Tokens → Bool
is_whole_path ts = some_all_pass (is_literal_except []) ts

-- RecursivePrefix, and one or more literals
abbrev pub is_last_components : Tokens → Bool
is_last_components ts = first_and_rest is_prefix is_whole_path ts

-- `*` and an extension
abbrev pub is_star_extension : Tokens → Bool
is_star_extension ts = first_and_rest is_star is_extension ts

-- `*` and any literals, perhaps none
abbrev pub is_star_literals : Tokens → Bool
is_star_literals ts = first_and_rest is_star are_literals ts

-- `*` that matches `/`, and any literals; or RecursivePrefix before these
abbrev pub is_end : Options → Tokens → Bool
is_end o ts = not o.literal_separator && (first_and_rest is_prefix is_star_literals ts || is_star_literals ts)

-- any literals and a last `*` that matches `/`; or RecursivePrefix alone
abbrev pub is_beginning : Options → Tokens → Bool
is_beginning o ts = is_prefix_alone ts || (not o.literal_separator && literals_and_last is_star ts)

-- any literals and a last RecursiveSuffix, which matches `/` and any bytes after it
abbrev pub is_below_folder : Tokens → Bool
is_below_folder ts = literals_and_last is_suffix ts
