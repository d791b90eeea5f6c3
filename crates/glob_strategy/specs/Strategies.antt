-- How a set decides whether a glob is reported.
use Rattle.std.specs.Prelude.{ℕ, Bool, false, not, ◌&&◌, ◌||◌, ◌==◌, List, [], ◌∷◌, ◌++◌, Option, Some, None, if◌then◌else◌}
use Rattle.glob_syntax.specs.declared.options.Options.{Options}
use Rattle.glob_syntax.specs.Token.{Token, Literal, Any, ZeroOrMore, Class, Tokens, end, and_then}
use Rattle.glob_syntax.specs.ClassBytes.{class_has}
use Rattle.glob_syntax.specs.TokenMatches.{slash}
use Rattle.glob_syntax.specs.TokensMatch.{is_prefix}
use Rattle.glob_path.specs.Key.{KeyValue}
use Rattle.glob_path.specs.Key as path_key
use Rattle.glob_strategy.specs.Excluded.{are_excluded}
use Rattle.glob_strategy.specs.TokenTests.{is_literal_except, first_and_rest, some_all_pass, literal_text, ending, is_extension, is_whole_path, is_last_components, is_star_extension, is_end, is_beginning, is_below_folder}

-- The token is a literal other than `/`, a class without the byte of `/`, or under `literal_separator` `?` or `*`. Its matches
-- have no `/`.
abbrev pub matches_no_slash : Options → Token → Bool
matches_no_slash o (Literal c) = not (c == slash)
matches_no_slash o Any = o.literal_separator
matches_no_slash o ZeroOrMore = o.literal_separator
matches_no_slash o (Class negated rs) = not (class_has o negated rs slash)
matches_no_slash o t = false

-- the tokens after RecursivePrefix if it is the first token, and otherwise all tokens
abbrev pub after_prefix : Tokens → Tokens
after_prefix end = end
after_prefix (and_then t ts) = if is_prefix t then ts else and_then t ts

-- the tokens before the last, if these are a literal `.` and any literals other than `.` and `/`; otherwise all tokens
abbrev pub before_ending : Tokens → Tokens
before_ending end = end
before_ending (and_then t ts) = if is_extension (and_then t ts) then end else and_then t (before_ending ts)

-- RecursivePrefix, and one or more literals other than `/`
abbrev pub is_last_component : Tokens → Bool
is_last_component ts = first_and_rest is_prefix (some_all_pass (is_literal_except (slash ∷ []))) ts

-- RecursivePrefix, `*` and an extension; or the same without RecursivePrefix, if `*` matches `/`
abbrev pub is_any_extension : Options → Tokens → Bool
is_any_extension o ts = first_and_rest is_prefix is_star_extension ts || (not o.literal_separator && is_star_extension ts)

-- RecursivePrefix, and one or more tokens of which none matches `/`
abbrev pub is_by_last_component : Options → Tokens → Bool
is_by_last_component o ts = first_and_rest is_prefix (some_all_pass (matches_no_slash o)) ts

-- How a set decides a glob. Keys and required extensions are literals of the glob.
pub data StrategyValue : Type 0 where
  -- no set returns the glob's index
  Excluded : StrategyValue
  -- a key, which is compared with the path or a part of it
  Key : KeyValue → StrategyValue
  -- an automaton that is run on the path before the extension, but only for paths whose last component has this extension
  RequiredExtension : List ℕ → StrategyValue
  -- an automaton that is run on the path's last component
  BasenameRegex : StrategyValue
  -- an automaton that is run on the path
  Regex : StrategyValue

-- the strategy for tokens that no key decides
abbrev pub automaton_strategy : Options → Tokens → StrategyValue
automaton_strategy o ts = if is_by_last_component o ts then BasenameRegex else Regex

-- the strategy for tokens with this ending
abbrev pub ending_strategy : Options → Tokens → Option (List ℕ) → StrategyValue
ending_strategy o ts (Some extension) = RequiredExtension extension
ending_strategy o ts None = automaton_strategy o ts

-- the strategy for the tokens of a case-sensitive glob that is not excluded: the first that fits
abbrev pub sensitive_strategy : Options → Tokens → StrategyValue
sensitive_strategy o ts =
    if is_whole_path ts then Key (path_key.Literal (literal_text ts)) else
    (if is_last_component ts then Key (path_key.BasenameLiteral (literal_text ts)) else
    (if is_last_components ts then Key (path_key.ComponentSuffix (literal_text ts)) else
    (if is_any_extension o ts then Key (path_key.Extension (literal_text ts)) else
    (if is_end o ts then Key (path_key.Suffix (literal_text ts)) else
    (if is_beginning o ts then Key (path_key.Prefix (literal_text ts)) else
    (if is_below_folder ts then Key (path_key.Prefix (literal_text ts ++ slash ∷ [])) else ending_strategy o ts (ending ts)))))))

-- The strategy for a glob with these tokens. Keys are compared byte by byte, so only case-sensitive globs have a key.
unfoldable pub strategy_of_tokens : Options → Tokens → StrategyValue
strategy_of_tokens o ts = if are_excluded o ts then Excluded else (if o.case_insensitive then automaton_strategy o ts else sensitive_strategy o ts)
