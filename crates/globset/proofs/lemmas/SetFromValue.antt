-- The elements of an array, read one after another.
use Rattle.std.proofs.Common.{◌≡◌, ℕ, ◌+◌, ◌≤◌, ◌<◌, List, [], ◌∷◌, ◌++◌, Bool, true, false, Option, Some, None, option_and_then, if◌then◌else◌, ap, sym, ◌∙◌, refl, Result, Ok, Err, IfErr, drop, get_or, length, inl, inr}
use Rattle.std.proofs.lemmas.List.{drop_more, drop_all}
use Rattle.std.proofs.lemmas.Result.{IfErr-at_err}
use Rattle.std.specs.Str.{chars}
use Rattle.serde_json.specs.Data.{Data, null, boolean, number, string, array, object, Members}
use Rattle.serde_json.specs.Find.{get_member, as_str}
use Rattle.serde_json.specs.View.{view, items_view}
use Rattle.serde_json.specs.declared.value.Value.{Value}
use Rattle.glob_syntax.specs.declared.parse_error_kind.ParseErrorKind.{ParseErrorKind}
use Rattle.glob_syntax.specs.declared.parse_error_kind.ParseErrorKind.TheVariants as faults
use Rattle.glob_text.specs.declared.value_error.ValueErrorKind.TheVariants.{Glob}
use Rattle.globset_glob.specs.Errors.{parse_error, glob_or_parse_error}
use Rattle.globset_glob.specs.GlobMatches.{GlobValue, default_glob, default_options}
use Rattle.globset_glob.specs.Reading.{reading}
use Rattle.globset_glob.specs.Token.{Tokens}
use Rattle.globset_glob.specs.ValueErrors.{ValueErrorValue, IsValueErrorOf, of_kind, of_element, at_index, not_text, unknown_key, not_bool}
use Rattle.globset_glob.specs.Values.{of_text, glob_key, has_unknown_key, has_non_boolean, options_in, glob_of_members, glob_of_value}
use Rattle.globset.specs.SetFromValue.{ahead_of, globs_from}

-- ---- the globs read so far, and what comes after them

-- these globs and the globs after them, or the error of what comes after them
abbrev pub onto : List GlobValue → Result (List GlobValue) ValueErrorValue → Result (List GlobValue) ValueErrorValue
onto [] r = r
onto (g ∷ globs) r = ahead_of g (onto globs r)

onto-nothing : (globs : List GlobValue) → onto globs (Ok []) ≡ Ok globs
onto-nothing [] = refl
onto-nothing (g ∷ globs) = ap (ahead_of g) (onto-nothing globs)

onto-error : (globs : List GlobValue) (e : ValueErrorValue) → onto globs (Err e) ≡ Err e
onto-error [] e = refl
onto-error (g ∷ globs) e = ap (ahead_of g) (onto-error globs e)

onto-more : (globs : List GlobValue) (g : GlobValue) (r : Result (List GlobValue) ValueErrorValue) → onto globs (ahead_of g r) ≡ onto (globs ++ g ∷ []) r
onto-more [] g r = refl
onto-more (h ∷ globs) g r = ap (ahead_of h) (onto-more globs g r)

-- ---- no error of a value is that of memory

known_fault : (i : ℕ) (g : GlobValue) (f : ParseErrorKind) → of_element i (of_kind (Glob (parse_error g.options g.text f))) ≡ at_index i (of_kind (Glob (parse_error g.options g.text f)))
known_fault i g faults.UnclosedClass = refl
known_fault i g (faults.InvalidRange start end) = refl
known_fault i g faults.UnopenedAlternates = refl
known_fault i g faults.UnclosedAlternates = refl
known_fault i g faults.DanglingEscape = refl

known_text : (i : ℕ) (g : GlobValue) (r : Result Tokens ParseErrorKind) →
    IfErr (of_text (elim r [ Ok ts ↦ Ok g | Err f ↦ Err (parse_error g.options g.text f) ])) (λ e. of_element i e ≡ at_index i e)
known_text i g (Ok ts) = tt
known_text i g (Err f) = known_fault i g f

known_choice : (i : ℕ) (has_unknown has_other : Bool) (g : GlobValue) →
    IfErr (if has_unknown then Err unknown_key else (if has_other then Err not_bool else of_text (glob_or_parse_error g))) (λ e. of_element i e ≡ at_index i e)
known_choice i true has_other g = refl
known_choice i false true g = refl
known_choice i false false g = known_text i g (reading g.options (chars g.text))

known_object : (i : ℕ) (entries : Members) (text : Option (List ℕ)) →
    IfErr (elim text [ Some t ↦ glob_of_members entries t | None ↦ Err not_text ]) (λ e. of_element i e ≡ at_index i e)
known_object i entries (Some text) = known_choice i (has_unknown_key entries) (has_non_boolean entries) (record { text = text; options = options_in entries })
known_object i entries None = refl

known_error : (i : ℕ) (value : Data) → IfErr (glob_of_value value) (λ e. of_element i e ≡ at_index i e)
known_error i (string text) = known_text i (default_glob text) (reading default_options (chars text))
known_error i null = refl
known_error i (boolean b) = refl
known_error i (number n) = refl
known_error i (array values) = refl
known_error i (object entries) = known_object i entries (option_and_then as_str (get_member glob_key entries))

-- ---- one element

-- the globs from this element on, or the error, by what the element is read as
abbrev next : ℕ → Result GlobValue ValueErrorValue → Result (List GlobValue) ValueErrorValue → Result (List GlobValue) ValueErrorValue
next i r more = elim r [ Ok g ↦ ahead_of g more | Err e ↦ Err (at_index i e) ]

next_value : (values : List Value) (i : ℕ) (value : Value) → i < length values → value ≡ get_or values i value →
    globs_from i (items_view (drop i values)) ≡ next i (glob_of_value (view value)) (globs_from (i + 1) (items_view (drop (i + 1) values)))
next_value values i value within is =
    ap (λ (vs : List Value). globs_from i (items_view vs)) (drop_more values i value within)
    ∙ ap (λ (v : Value). globs_from i (items_view (v ∷ drop (i + 1) values))) (sym is)

-- an element is a glob, and was pushed onto the list
pub one_glob : (values : List Value) (i : ℕ) (value : Value) (globs globs' : List GlobValue) (g h : GlobValue) (all : Result (List GlobValue) ValueErrorValue) →
    i < length values → value ≡ get_or values i value → all ≡ onto globs (globs_from i (items_view (drop i values))) → glob_of_value (view value) ≡ Ok g →
    h ≡ g → globs' ≡ globs ++ h ∷ [] → all ≡ onto globs' (globs_from (i + 1) (items_view (drop (i + 1) values)))
one_glob values i value globs globs' g h all within is sofar e same put =
    let more = globs_from (i + 1) (items_view (drop (i + 1) values)) in
    sofar ∙ ap (onto globs) (next_value values i value within is ∙ ap (λ (r : Result GlobValue ValueErrorValue). next i r more) e) ∙ onto-more globs g more
    ∙ ap (λ (l : List GlobValue). onto l more) (ap (λ (x : GlobValue). globs ++ x ∷ []) (sym same) ∙ sym put)

-- an element is not a glob
pub one_error : (values : List Value) (i : ℕ) (value : Value) (globs : List GlobValue) (e f : ValueErrorValue) (all : Result (List GlobValue) ValueErrorValue) →
    i < length values → value ≡ get_or values i value → all ≡ onto globs (globs_from i (items_view (drop i values))) → IsValueErrorOf (glob_of_value (view value)) e →
    f ≡ of_element i e → IsValueErrorOf all f
one_error values i value globs e f all within is sofar (inl memory) of = inl (of ∙ ap (of_element i) memory)
one_error values i value globs e f all within is sofar (inr refused) of =
    let more = globs_from (i + 1) (items_view (drop (i + 1) values)) in
    let here : f ≡ at_index i e = of ∙ IfErr-at_err (λ x. of_element i x ≡ at_index i x) refused (known_error i (view value)) in
    inr (sofar ∙ ap (onto globs) (next_value values i value within is ∙ ap (λ (r : Result GlobValue ValueErrorValue). next i r more) refused)
    ∙ onto-error globs (at_index i e) ∙ ap Err (sym here))

-- all elements were read
pub all_globs : (values : List Value) (i : ℕ) (globs : List GlobValue) (all : Result (List GlobValue) ValueErrorValue) → length values ≤ i →
    all ≡ onto globs (globs_from i (items_view (drop i values))) → all ≡ Ok globs
all_globs values i globs all end sofar =
    sofar ∙ ap (λ (vs : List Value). onto globs (globs_from i (items_view vs))) (drop_all i values end) ∙ onto-nothing globs
