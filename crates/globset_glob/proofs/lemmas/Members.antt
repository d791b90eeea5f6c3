-- What an object has after options were added to it.
use Rattle.std.proofs.Common.{◌≡◌, ℕ, zero, suc, ◌<◌, List, [], ◌∷◌, map, length, take, get_or, Bor, arith, Bool, true, false, not, ◌||◌, Option, Some, Ordering, Less, Equal, Greater, ap, sym, refl, ◌∙◌, true≢false, if◌then◌else◌, String, Global, string_bytes}
use Rattle.std.proofs.lemmas.Bool.{and_parts}
use Rattle.std.proofs.lemmas.Slice.Eq.{bytes_eq-Decides}
use Rattle.std.specs.Bool.{beq}
use Rattle.std.specs.Cmp.Lexicographic.{slice_cmp}
use Rattle.std.specs.List.{list_all}
use Rattle.std.specs.Ordering.{nat_cmp, match_ordering}
use Rattle.std.specs.Str.{bytes_eq}
use Rattle.serde_json.specs.Data.{Data, boolean, Members, no_members, member, put}
use Rattle.serde_json.specs.Find.{get_member}
use Rattle.serde_json.specs.View.{members_view}
use Rattle.serde_json.specs.declared.value.Value.{Value}
use Rattle.serde_json.proofs.Views.{Entry, get_member-put, get_member-put_other}
use Rattle.globset_glob.specs.Values.{KeyedOption, is_known_key, has_unknown_key, with_option, with_options}

-- ---- the value under a key

-- what is added for an option: nothing if it has its default
abbrev pub added : Bool → Bool → Option Data → Option Data
added value default found = if beq value default then found else Some (boolean value)

-- the value under a key after an option was added, by the value before
abbrev pub found_after : List ℕ → KeyedOption → Option Data → Option Data
found_after key option found = if bytes_eq key option.key then added option.value option.default found else found

-- the same after each of these options was added
abbrev pub found_after_all : List ℕ → List KeyedOption → Option Data → Option Data
found_after_all key [] found = found
found_after_all key (option ∷ options) found = found_after_all key options (found_after key option found)

found_in_put : (key k : List ℕ) (d : Data) (entries : Members) (same : Bool) → bytes_eq key k ≡ same → get_member key (put k d entries) ≡ (if same then Some d else get_member key entries)
found_in_put key k d entries true is = ap (λ name. get_member name (put k d entries)) ((bytes_eq-Decides key k).0 is) ∙ get_member-put k d entries
found_in_put key k d entries false is = get_member-put_other key k d entries (λ e. true≢false (sym ((bytes_eq-Decides key k).1 e) ∙ is))

found_in_option : (key k : List ℕ) (value : Bool) (entries : Members) (unchanged same : Bool) → bytes_eq key k ≡ same
    → get_member key (if unchanged then entries else put k (boolean value) entries) ≡ (if same then (if unchanged then get_member key entries else Some (boolean value)) else get_member key entries)
found_in_option key k value entries true true is = refl
found_in_option key k value entries true false is = refl
found_in_option key k value entries false true is = found_in_put key k (boolean value) entries true is
found_in_option key k value entries false false is = found_in_put key k (boolean value) entries false is

pub found_in_options : (key : List ℕ) (options : List KeyedOption) (entries : Members) → get_member key (with_options options entries) ≡ found_after_all key options (get_member key entries)
found_in_options key [] entries = refl
found_in_options key (option ∷ options) entries =
    found_in_options key options (with_option option entries)
    ∙ ap (found_after_all key options) (found_in_option key option.key option.value entries (beq option.value option.default) (bytes_eq key option.key) refl)

-- ---- options that are added one after another

-- the options before one, and then that one: `rows` has the key and the value of each option, and `defaults` its default
pub with_next : (rows defaults : List (Bor (List ℕ) × Bool)) (options : List KeyedOption)
    → map (λ row. row.0.now) rows ≡ map (λ option. option.key) options → map (λ row. row.1) rows ≡ map (λ option. option.value) options
    → map (λ row. row.1) defaults ≡ map (λ option. option.default) options
    → (i : ℕ) → i < length options → (r s : Bor (List ℕ) × Bool) (entries : Members)
    → with_options (take (suc i) options) entries
    ≡ with_option (record { key = (get_or rows i r).0.now; value = (get_or rows i r).1; default = (get_or defaults i s).1 }) (with_options (take i options) entries)
with_next rows defaults [] keys values same i within r s entries = absurd (omega arith)
with_next [] defaults (option ∷ options) keys values same i within r s entries = absurd (cc)
with_next (row ∷ rows) [] (option ∷ options) keys values same i within r s entries = absurd (cc)
with_next (row ∷ rows) (default ∷ defaults) (option ∷ options) keys values same zero within r s entries =
    let key : option.key ≡ row.0.now = cc in
    let value : option.value ≡ row.1 = cc in
    let usual : option.default ≡ default.1 = cc in
    (λ j. with_option (record { key = key j; value = value j; default = usual j }) entries)
with_next (row ∷ rows) (default ∷ defaults) (option ∷ options) keys values same (suc i) within r s entries =
    with_next rows defaults options (cc) (cc) (cc) i (omega arith) r s (with_option option entries)

-- ---- keys that are not known

or_later : (a b c : Bool) → (a || b) ≡ false → (b ≡ false → c ≡ false) → (a || c) ≡ false
or_later false b c none f = f none
or_later true b c none f = absurd (true≢false none)

known_at : (o : Ordering) (k l : List ℕ) (d e : Data) (entries : Members) → is_known_key k ≡ true → has_unknown_key (member l e entries) ≡ false
    → (has_unknown_key entries ≡ false → has_unknown_key (put k d entries) ≡ false)
    → has_unknown_key (match_ordering o (member k d (member l e entries)) (member l d entries) (member l e (put k d entries))) ≡ false
known_at Less k l d e entries known none later = ap (λ b. not b || has_unknown_key (member l e entries)) known ∙ none
known_at Equal k l d e entries known none later = none
known_at Greater k l d e entries known none later = or_later (not (is_known_key l)) _ _ none later

known_in_put : (k : List ℕ) (d : Data) (entries : Members) → is_known_key k ≡ true → has_unknown_key entries ≡ false → has_unknown_key (put k d entries) ≡ false
known_in_put k d no_members known none = ap (λ b. not b || false) known
known_in_put k d (member l e entries) known none = known_at (slice_cmp nat_cmp k l) k l d e entries known none (λ h. known_in_put k d entries known h)

known_in_option : (k : List ℕ) (value unchanged : Bool) (entries : Members) → is_known_key k ≡ true → has_unknown_key entries ≡ false
    → has_unknown_key (if unchanged then entries else put k (boolean value) entries) ≡ false
known_in_option k value true entries known none = none
known_in_option k value false entries known none = known_in_put k (boolean value) entries known none

-- options with keys that are known add no other key
pub known_in_options : (options : List KeyedOption) (entries : Members) → list_all (λ option. is_known_key option.key) options ≡ true → has_unknown_key entries ≡ false
    → has_unknown_key (with_options options entries) ≡ false
known_in_options [] entries known none = none
known_in_options (option ∷ options) entries known none =
    let parts = and_parts (is_known_key option.key) (list_all (λ option. is_known_key option.key) options) known in
    known_in_options options (with_option option entries) parts.1 (known_in_option option.key option.value (beq option.value option.default) entries parts.0 none)

-- the first of these entries has a key that is known
pub pass_known : (entries left : List Entry) (key : String Global) (value : Value) → entries ≡ (key, value) ∷ left → is_known_key (string_bytes key) ≡ true
    → has_unknown_key (members_view entries) ≡ has_unknown_key (members_view left)
pass_known entries left key value is known = ap (λ (es : List Entry). has_unknown_key (members_view es)) is ∙ ap (λ b. not b || has_unknown_key (members_view left)) known

-- the first of these entries has a key that is not known
pub find_unknown : (entries left : List Entry) (key : String Global) (value : Value) → entries ≡ (key, value) ∷ left → is_known_key (string_bytes key) ≡ false
    → has_unknown_key (members_view entries) ≡ true
find_unknown entries left key value is unknown = ap (λ (es : List Entry). has_unknown_key (members_view es)) is ∙ ap (λ b. not b || has_unknown_key (members_view left)) unknown
