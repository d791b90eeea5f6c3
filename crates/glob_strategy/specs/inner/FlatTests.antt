-- Tests of flat tokens, as the program makes them.
use Rattle.std.specs.Prelude.{◌≡◌, ℕ, Bool, true, false, not, ◌&&◌, ◌||◌, List, [], ◌∷◌, ◌++◌, Option, Some, None, if◌then◌else◌, encode_utf8}
use Rattle.std.specs.List.{list_all}
use Rattle.glob_syntax.specs.declared.options.Options.{Options}
use Rattle.glob_syntax.specs.Token.{Token, Literal}
use Rattle.glob_syntax.specs.declared.token.Token as held
use Rattle.glob_syntax.specs.FlatTokens.{Flat, simple, opening, comma, closing}
use Rattle.glob_syntax.specs.Views.{flats}
use Rattle.glob_syntax.specs.TokenMatches.{slash}
use Rattle.glob_syntax.specs.TokensMatch.{is_prefix}
use Rattle.glob_strategy.specs.Excluded.{is_dot}
use Rattle.glob_strategy.specs.TokenTests.{is_literal_except, is_star, is_suffix}
use Rattle.glob_strategy.specs.Strategies.{matches_no_slash}

-- the token is no brace or comma, and passes the test
abbrev pub is_simple_that : (Token → Bool) → Flat → Bool
is_simple_that test (simple t) = test t
is_simple_that test opening = false
is_simple_that test comma = false
is_simple_that test closing = false

-- each token is no brace or comma, and passes the test
abbrev pub all_simple_pass : (Token → Bool) → List Flat → Bool
all_simple_pass test ts = list_all (is_simple_that test) ts

-- one or more such tokens
abbrev pub some_all_simple_pass : (Token → Bool) → List Flat → Bool
some_all_simple_pass test [] = false
some_all_simple_pass test (t ∷ ts) = all_simple_pass test (t ∷ ts)

-- the first token is no brace or comma and passes the first test, and the tokens after it pass the second
abbrev pub first_and_rest : (Token → Bool) → (List Flat → Bool) → List Flat → Bool
first_and_rest test rest [] = false
first_and_rest test rest (t ∷ ts) = is_simple_that test t && rest ts

-- literals, perhaps none
abbrev pub are_literals : List Flat → Bool
are_literals ts = all_simple_pass (is_literal_except []) ts

-- literals, perhaps none, and then a last token that passes the test
abbrev pub literals_and_last : (Token → Bool) → List Flat → Bool
literals_and_last test [] = false
literals_and_last test (t ∷ []) = is_simple_that test t
literals_and_last test (t ∷ (u ∷ ts)) = is_simple_that (is_literal_except []) t && literals_and_last test (u ∷ ts)

-- RecursivePrefix is the only token
abbrev pub is_prefix_alone : List Flat → Bool
is_prefix_alone [] = false
is_prefix_alone (t ∷ []) = is_simple_that is_prefix t
is_prefix_alone (t ∷ (u ∷ ts)) = false

-- the bytes of the tokens that are literals
abbrev pub literal_text : List Flat → List ℕ
literal_text [] = []
literal_text (simple (Literal c) ∷ ts) = encode_utf8 c ++ literal_text ts
literal_text (t ∷ ts) = literal_text ts

-- a literal `.`, and any literals other than `.` and `/`
abbrev pub is_extension : List Flat → Bool
is_extension ts = first_and_rest is_dot (all_simple_pass (is_literal_except (46 ∷ slash ∷ []))) ts

-- one or more literals
abbrev pub is_whole_path : List Flat → Bool
is_whole_path ts = some_all_simple_pass (is_literal_except []) ts

-- RecursivePrefix, and one or more literals other than `/`
abbrev pub is_last_component : List Flat → Bool
is_last_component ts = first_and_rest is_prefix (some_all_simple_pass (is_literal_except (slash ∷ []))) ts

-- RecursivePrefix, and one or more literals
abbrev pub is_last_components : List Flat → Bool
is_last_components ts = first_and_rest is_prefix is_whole_path ts

-- `*` and an extension
abbrev pub is_star_extension : List Flat → Bool
is_star_extension ts = first_and_rest is_star is_extension ts

-- RecursivePrefix, `*` and an extension; or the same without RecursivePrefix, if `*` matches `/`
abbrev pub is_any_extension : Options → List Flat → Bool
is_any_extension o ts = first_and_rest is_prefix is_star_extension ts || (not o.literal_separator && is_star_extension ts)

-- `*` and any literals
abbrev pub is_star_literals : List Flat → Bool
is_star_literals ts = first_and_rest is_star are_literals ts

-- `*` that matches `/`, and any literals; or RecursivePrefix before these
abbrev pub is_end : Options → List Flat → Bool
is_end o ts = not o.literal_separator && (first_and_rest is_prefix is_star_literals ts || is_star_literals ts)

-- any literals and a last `*` that matches `/`; or RecursivePrefix alone
abbrev pub is_beginning : Options → List Flat → Bool
is_beginning o ts = is_prefix_alone ts || (not o.literal_separator && literals_and_last is_star ts)

-- any literals and a last RecursiveSuffix
abbrev pub is_below_folder : List Flat → Bool
is_below_folder ts = literals_and_last is_suffix ts

-- RecursivePrefix, and one or more tokens of which none matches `/`
abbrev pub is_by_last_component : Options → List Flat → Bool
is_by_last_component o ts = first_and_rest is_prefix (some_all_simple_pass (matches_no_slash o)) ts

-- the bytes of the last tokens that are an extension, if any are
abbrev pub ending : List Flat → Option (List ℕ)
ending [] = None
ending (t ∷ ts) = if is_extension (t ∷ ts) then Some (literal_text (t ∷ ts)) else ending ts

-- the tokens are others, and then these, which are an extension
pub record EndsInExtension (tokens last : List held.Token) : Type 0 where
  pub before : List held.Token
  pub cut : tokens ≡ before ++ last
  pub extension : is_extension (flats last) ≡ true
