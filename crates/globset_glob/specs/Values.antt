-- The JSON value of a glob, and which glob a value is read as.
use Rattle.std.specs.Prelude.{List, [], ◌∷◌, ◌||◌, ℕ, map, Bool, false, not, Some, None, is_some, unwrap_or, option_and_then, Result, Ok, Err, codes, if◌then◌else◌}
use Rattle.std.specs.Bool.{beq}
use Rattle.std.specs.List.{list_all, list_any}
use Rattle.std.specs.Str.{bytes_eq}
use Rattle.serde_json.specs.Data.{Data, null, boolean, number, string, array, object, Members, no_members, member, put}
use Rattle.serde_json.specs.Find.{get_member, as_bool, as_str}
use Rattle.glob_syntax.specs.declared.options.Options.{Options}
use Rattle.glob_text.specs.declared.value_error.ValueErrorKind.TheVariants as kinds
use Rattle.glob_text.specs.Errors.{ErrorValue, glob_or_parse_error}
use Rattle.glob_text.specs.GlobMatches.{GlobValue, default_glob, default_options}
use Rattle.glob_text.specs.ValueErrors.{ValueErrorValue, of_kind, not_text, unknown_key, not_bool}

-- the glob of a text, or the error of the text, as an error of a value
abbrev pub of_text : Result GlobValue ErrorValue → Result GlobValue ValueErrorValue
of_text (Ok g) = Ok g
of_text (Err e) = Err (of_kind (kinds.Glob e))

-- ---- objects

-- An option as objects have it: its key, its value, and the default that it has if the key is absent.
pub record KeyedOption : Type 0 where
  pub key : List ℕ
  pub value : Bool
  pub default : Bool

-- the options of a glob, each with its key
abbrev pub keyed_options : Options → List KeyedOption
keyed_options o =
    record { key = codes "case_insensitive"; value = o.case_insensitive; default = default_options.case_insensitive }
    ∷ record { key = codes "literal_separator"; value = o.literal_separator; default = default_options.literal_separator }
    ∷ record { key = codes "backslash_escape"; value = o.backslash_escape; default = default_options.backslash_escape }
    ∷ record { key = codes "empty_alternates"; value = o.empty_alternates; default = default_options.empty_alternates }
    ∷ record { key = codes "allow_unclosed_class"; value = o.allow_unclosed_class; default = default_options.allow_unclosed_class }
    ∷ record { key = codes "whole_character"; value = o.whole_character; default = default_options.whole_character }
    ∷ []

-- the keys of options
abbrev pub option_keys : List (List ℕ)
option_keys = map (λ option. option.key) (keyed_options default_options)

-- the key of an object's text
abbrev pub glob_key : List ℕ
glob_key = codes "glob"

-- an object may have this key
abbrev pub is_known_key : List ℕ → Bool
is_known_key key = list_any (bytes_eq key) (glob_key ∷ option_keys)

-- some key of the object is not known
abbrev pub has_unknown_key : Members → Bool
has_unknown_key no_members = false
has_unknown_key (member key value entries) = not (is_known_key key) || has_unknown_key entries

-- the object has this key, and the value under it is neither true nor false
abbrev pub is_non_boolean : Members → List ℕ → Bool
is_non_boolean entries key = elim (get_member key entries) [ Some value ↦ not (is_some (as_bool value)) | None ↦ false ]

-- some option of the object is neither true nor false
abbrev pub has_non_boolean : Members → Bool
has_non_boolean entries = list_any (is_non_boolean entries) option_keys

-- the option under this key, or its default if the object does not have the key
abbrev pub option_in : Members → List ℕ → Bool → Bool
option_in entries key default = unwrap_or (option_and_then as_bool (get_member key entries)) default

-- the options of an object, each with its default if its key is absent
abbrev pub options_in : Members → Options
options_in entries = record {
  case_insensitive = option_in entries (codes "case_insensitive") default_options.case_insensitive;
  literal_separator = option_in entries (codes "literal_separator") default_options.literal_separator;
  backslash_escape = option_in entries (codes "backslash_escape") default_options.backslash_escape;
  empty_alternates = option_in entries (codes "empty_alternates") default_options.empty_alternates;
  allow_unclosed_class = option_in entries (codes "allow_unclosed_class") default_options.allow_unclosed_class;
  whole_character = option_in entries (codes "whole_character") default_options.whole_character;
}

-- What an object with this text is read as: the glob of the text under the object's options. The errors are, in this order:
-- a key that is not known; an option that is neither true nor false; the error of the text.
abbrev pub glob_of_members : Members → List ℕ → Result GlobValue ValueErrorValue
glob_of_members entries text = if has_unknown_key entries then Err unknown_key
    else (if has_non_boolean entries then Err not_bool else of_text (glob_or_parse_error (record { text = text; options = options_in entries })))

-- What an object is read as. That the value under `glob` is no text, or absent, comes before every other error.
abbrev pub glob_of_object : Members → Result GlobValue ValueErrorValue
glob_of_object entries = elim (option_and_then as_str (get_member glob_key entries)) [ Some text ↦ glob_of_members entries text | None ↦ Err not_text ]

-- ---- values

-- The reading of a value. A text is read as the glob of its content under the default options, or gives the error of that
-- content, and an object is read by its members. Any other value gives the error `not_text`.
abbrev pub glob_of_value : Data → Result GlobValue ValueErrorValue
glob_of_value (string text) = of_text (glob_or_parse_error (default_glob text))
glob_of_value null = Err not_text
glob_of_value (boolean b) = Err not_text
glob_of_value (number n) = Err not_text
glob_of_value (array values) = Err not_text
glob_of_value (object entries) = glob_of_object entries

-- every option has its default
abbrev pub are_default : Options → Bool
are_default o = list_all (λ option. beq option.value option.default) (keyed_options o)

-- the members, with the option added unless it has its default
abbrev pub with_option : KeyedOption → Members → Members
with_option option entries = if beq option.value option.default then entries else put option.key (boolean option.value) entries

-- the members, with each option added that does not have its default
abbrev pub with_options : List KeyedOption → Members → Members
with_options [] entries = entries
with_options (option ∷ options) entries = with_options options (with_option option entries)

-- The value of a glob: its text if every option has its default, and otherwise an object, with the text under `glob` and each
-- option that does not have its default. `put` keeps keys in ascending order.
abbrev pub value_of_glob : GlobValue → Data
value_of_glob g = if are_default g.options then string g.text
    else object (with_options (keyed_options g.options) (member glob_key (string g.text) no_members))
