-- The words in which the examples are written.
use Rattle.std.specs.Prelude.{ℕ, Bool, true, false, List, Ok, Err, codes, encode_utf8_all, Option, None, Some}
use Rattle.std.specs.Char.{encode_utf8}
use Rattle.std.specs.Str.{chars}
use Prim.Native.String.{String}
use Rattle.glob_syntax.specs.Ranges.{ranges, bad_range}
use Rattle.glob_syntax.specs.Lexemes.{lexemes, lexeme_at}
use Rattle.glob_syntax.specs.Nesting.{nested}
use Rattle.glob_syntax.specs.Stars.{piece}
use Rattle.glob_syntax.specs.Reading.{reading, whole, levels}
use Rattle.glob_syntax.specs.declared.options.Options.{Options}
use Rattle.glob_strategy.specs.Strategies.{StrategyValue, strategy_of_tokens}
use Rattle.glob_strategy.specs.Direct.{is_direct, needs_automaton}
use Rattle.glob_strategy.specs.Excluded.{are_excluded}

-- What a proof unfolds to compute the strategy for a glob that is written out, and whether it is direct.
unfoldable pub globs_on_literals : Unit {0}
unfolding chars encode_utf8 ranges bad_range lexemes lexeme_at nested piece reading whole levels strategy_of_tokens is_direct needs_automaton
globs_on_literals = tt

-- ---- texts under options

pub record Case : Type 0 where
  pub text : List ℕ
  pub options : Options

-- these two options; `\` escapes, and the others are off
abbrev pub case : String → Bool → Bool → Case
case text insensitive separated = record {
  text = encode_utf8_all (codes text);
  options = record {
    case_insensitive = insensitive;
    literal_separator = separated;
    backslash_escape = true;
    empty_alternates = false;
    allow_unclosed_class = false;
    whole_character = false;
  };
}

-- a glob under the default options
abbrev pub glob : String → Case
glob text = case text false false

-- under `case_insensitive`
abbrev pub insensitive : String → Case
insensitive text = case text true false

-- under `literal_separator`
abbrev pub separated : String → Case
separated text = case text false true

-- ---- results

-- whether the glob is excluded, or `None` if its text is not a glob
abbrev pub excluded : Case → Option Bool
excluded x = elim (reading x.options (chars x.text)) [ Ok ts ↦ Some (are_excluded x.options ts) | Err f ↦ None ]

-- the strategy for the glob, or `None` if its text is not a glob
abbrev pub strategy : Case → Option StrategyValue
strategy x = elim (reading x.options (chars x.text)) [ Ok ts ↦ Some (strategy_of_tokens x.options ts) | Err f ↦ None ]

-- whether the glob is direct, or `None` if its text is not a glob
abbrev pub directness : Case → Option Bool
directness x = elim (reading x.options (chars x.text)) [ Ok ts ↦ Some (is_direct x.options ts) | Err f ↦ None ]

-- whether an automaton is needed to decide the glob for a path, or `None` if its text is not a glob
abbrev pub need : Case → String → Option Bool
need x path = elim (reading x.options (chars x.text)) [ Ok ts ↦ Some (needs_automaton x.options ts (encode_utf8_all (codes path))) | Err f ↦ None ]
