-- The JSON value of a glob is read as that glob.
use Rattle.std.proofs.Common.{◌≡◌, ℕ, List, Bool, true, false, not, ◌||◌, ◌&&◌, Option, Some, None, is_some, unwrap_or, option_and_then, ap, sym, ◌∙◌, refl, Result, Ok, Err, true≢false, if◌then◌else◌}
use Rattle.std.specs.Bool.{beq}
use Rattle.std.specs.Prelude.{IsOk, codes}
use Rattle.std.specs.Str.{chars}
use Rattle.serde_json.specs.Data.{Data, string, object, Members, no_members, member}
use Rattle.serde_json.specs.Find.{get_member, as_bool, as_str}
use Rattle.glob_syntax.specs.declared.parse_error_kind.ParseErrorKind.{ParseErrorKind}
use Rattle.glob_syntax.specs.declared.options.Options.{Options}
use Rattle.glob_text.specs.Errors.{parse_error, glob_or_parse_error}
use Rattle.glob_text.specs.GlobMatches.{GlobValue, IsRead, default_options}
use Rattle.glob_syntax.specs.Reading.{reading}
use Rattle.glob_syntax.specs.Token.{Tokens}
use Rattle.glob_text.specs.inner.Equality.{same_options}
use Rattle.glob_text.specs.ValueErrors.{not_text}
use Rattle.globset_glob.specs.Values.{keyed_options, glob_key, of_text, has_unknown_key, is_non_boolean, has_non_boolean, option_in, options_in, glob_of_members, glob_of_value, are_default, with_options, value_of_glob}
use Rattle.glob_text.proofs.lemmas.GlobEquality.{same_options_decides}
use Rattle.globset_glob.proofs.lemmas.Members.{added, found_after_all, found_in_options, known_in_options}

-- ---- the test whether each option has its default

and_true : (b : Bool) → (b && true) ≡ b
and_true true = refl
and_true false = refl

defaults_are : (o : Options) → are_default o ≡ same_options o default_options
defaults_are o = ap (λ b. beq o.case_insensitive false && (beq o.literal_separator false && (beq o.backslash_escape true && (beq o.empty_alternates false && (beq o.allow_unclosed_class false && b))))) (and_true (beq o.whole_character false))

-- the value of a glob under the default options, and that of any other
pub text_of_defaults : (g : GlobValue) → same_options g.options default_options ≡ true → value_of_glob g ≡ string g.text
text_of_defaults g same = ap (λ b. if b then string g.text else object (with_options (keyed_options g.options) (member glob_key (string g.text) no_members))) (defaults_are g.options ∙ same)

pub object_of_others : (g : GlobValue) → same_options g.options default_options ≡ false
    → value_of_glob g ≡ object (with_options (keyed_options g.options) (member glob_key (string g.text) no_members))
object_of_others g same = ap (λ b. if b then string g.text else object (with_options (keyed_options g.options) (member glob_key (string g.text) no_members))) (defaults_are g.options ∙ same)

-- ---- a text

-- a text that has a reading is a glob
of_read : (g : GlobValue) (r : Result Tokens ParseErrorKind) → IsOk r → of_text (elim r [ Ok ts ↦ Ok g | Err f ↦ Err (parse_error g.options g.text f) ]) ≡ Ok g
of_read g (Ok ts) is = refl
of_read g (Err f) is = absurd (true≢false (sym is))

of_glob : (g : GlobValue) → IsRead g → of_text (glob_or_parse_error g) ≡ Ok g
of_glob g read = of_read g (reading g.options (chars g.text)) read

text_read_back : (g : GlobValue) → IsRead g → g.options ≡ default_options → glob_of_value (string g.text) ≡ Ok g
text_read_back g read default = ap (λ (o : Options). of_text (glob_or_parse_error (record { text = g.text; options = o }))) (sym default) ∙ of_glob g read

-- ---- an object

-- the members of the object for a glob
abbrev members_of : GlobValue → Members
members_of g = with_options (keyed_options g.options) (member glob_key (string g.text) no_members)

read_if_added : (value default : Bool) → unwrap_or (option_and_then as_bool (added value default None)) default ≡ value
read_if_added true true = refl
read_if_added true false = refl
read_if_added false true = refl
read_if_added false false = refl

bool_if_added : (value default : Bool) → elim (added value default None) [ Some d ↦ not (is_some (as_bool d)) | None ↦ false ] ≡ false
bool_if_added true true = refl
bool_if_added true false = refl
bool_if_added false true = refl
bool_if_added false false = refl

-- an option is read as it was written, if what is under its key is what was added for it
option_read_back : (g : GlobValue) (key : List ℕ) (value default : Bool)
    → found_after_all key (keyed_options g.options) (get_member key (member glob_key (string g.text) no_members)) ≡ added value default None
    → (option_in (members_of g) key default ≡ value) × (is_non_boolean (members_of g) key ≡ false)
option_read_back g key value default is =
    let found = found_in_options key (keyed_options g.options) (member glob_key (string g.text) no_members) ∙ is in (
      ap (λ d. unwrap_or (option_and_then as_bool d) default) found ∙ read_if_added value default,
      ap (λ (d : Option Data). elim d [ Some value ↦ not (is_some (as_bool value)) | None ↦ false ]) found ∙ bool_if_added value default,
    )

or_false : {a b : Bool} → a ≡ false → b ≡ false → (a || b) ≡ false
or_false {a} {b} here later = ap (λ c. c || b) here ∙ later

-- each option of the object for a glob is true or false, and is that of the glob
options_read_back : (g : GlobValue) → (options_in (members_of g) ≡ g.options) × (has_non_boolean (members_of g) ≡ false)
options_read_back g =
    let case_insensitive = option_read_back g (codes "case_insensitive") g.options.case_insensitive false refl in
    let literal_separator = option_read_back g (codes "literal_separator") g.options.literal_separator false refl in
    let backslash_escape = option_read_back g (codes "backslash_escape") g.options.backslash_escape true refl in
    let empty_alternates = option_read_back g (codes "empty_alternates") g.options.empty_alternates false refl in
    let allow_unclosed_class = option_read_back g (codes "allow_unclosed_class") g.options.allow_unclosed_class false refl in
    let whole_character = option_read_back g (codes "whole_character") g.options.whole_character false refl in (
      λ i. record {
        case_insensitive = case_insensitive.0 i;
        literal_separator = literal_separator.0 i;
        backslash_escape = backslash_escape.0 i;
        empty_alternates = empty_alternates.0 i;
        allow_unclosed_class = allow_unclosed_class.0 i;
        whole_character = whole_character.0 i;
      },
      or_false case_insensitive.1 (or_false literal_separator.1 (or_false backslash_escape.1 (or_false empty_alternates.1 (or_false allow_unclosed_class.1 (or_false whole_character.1 refl))))),
    )

object_read_back : (g : GlobValue) → IsRead g → glob_of_value (object (members_of g)) ≡ Ok g
object_read_back g read =
    let text : get_member glob_key (members_of g) ≡ Some (string g.text) = found_in_options glob_key (keyed_options g.options) (member glob_key (string g.text) no_members) in
    let known : has_unknown_key (members_of g) ≡ false = known_in_options (keyed_options g.options) (member glob_key (string g.text) no_members) refl refl in
    let options = options_read_back g in
    ap (λ (d : Option Data). elim (option_and_then as_str d) [ Some t ↦ glob_of_members (members_of g) t | None ↦ Err not_text ]) text ∙ rw (known, options.1, options.0) (of_glob g read)

-- ---- both

read_back_at : (g : GlobValue) (same : Bool) → same_options g.options default_options ≡ same → IsRead g → glob_of_value (value_of_glob g) ≡ Ok g
read_back_at g true is read = ap glob_of_value (text_of_defaults g is) ∙ text_read_back g read ((same_options_decides g.options default_options).0 is)
read_back_at g false is read = ap glob_of_value (object_of_others g is) ∙ object_read_back g read

-- the value of a glob is read as that glob
pub read_back : (g : GlobValue) (value : Data) → value ≡ value_of_glob g → IsRead g → glob_of_value value ≡ Ok g
read_back g value is read = ap glob_of_value is ∙ read_back_at g (same_options g.options default_options) refl read
