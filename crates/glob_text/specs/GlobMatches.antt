-- Which paths a glob matches. A path is a list of bytes.
use Rattle.std.specs.Prelude.{ℕ, Bool, true, false, List, Ok, Err, IsOk}
use Rattle.std.specs.Str.{chars}
use Rattle.glob_syntax.specs.declared.options.Options.{Options}
use Rattle.glob_syntax.specs.Token.{Tokens, end}
use Rattle.glob_syntax.specs.Reading.{reading}
use Rattle.glob_syntax.specs.TokensMatch.{tokens_match}

-- A glob as contracts see it: its text, in UTF-8, and its options.
pub record GlobValue : Type 0 where
  pub text : List ℕ
  pub options : Options

-- these two as a value
abbrev pub glob_value : List ℕ → Options → GlobValue
glob_value text options = record { text = text; options = options }

-- the options of a glob if none is set: `\` escapes, and the others are off
abbrev pub default_options : Options
default_options = record {
  case_insensitive = false;
  literal_separator = false;
  backslash_escape = true;
  empty_alternates = false;
  allow_unclosed_class = false;
  whole_character = false;
}

-- the glob with this text and the default options
abbrev pub default_glob : List ℕ → GlobValue
default_glob text = glob_value text default_options

-- The text has a reading under the options, as the text of every `Glob` has.
abbrev pub IsRead : GlobValue → Type 0
IsRead g = IsOk (reading g.options (chars g.text))

-- The tokens that the text is read as. A text with a fault gets no tokens here, but no `Glob` has such a text.
unfoldable pub tokens_of_glob : GlobValue → Tokens
tokens_of_glob g = elim (reading g.options (chars g.text)) [ Ok ts ↦ ts | Err f ↦ end ]

-- The glob matches the path. This has a meaning only if the text has a reading, as the text of every `Glob` has.
unfoldable pub glob_matches : GlobValue → List ℕ → Bool
glob_matches g path = tokens_match g.options (tokens_of_glob g) path
