-- The elements of a pattern without a `/` match none.
use Rattle.std.proofs.Common.{◌≡◌, ℕ, zero, suc, ◌+◌, Bool, true, false, true≢false, not, ◌&&◌, ◌||◌, List, [], ◌∷◌, drop, IsTrue, Option, Some, None, refl, sym, ◌∙◌, ap, subst, arith}
use Rattle.std.specs.Prelude.{◌==◌}
use Rattle.std.specs.List.{list_all, prefix_len}
use Rattle.std.specs.Option.{option_map}
use Rattle.std.specs.Char.{to_ascii_lowercase}
use Rattle.std.proofs.lemmas.Bool.{cond_both, eqb-true, eq-eqb, false_from_ne_true, or_parts, or_from}
use Rattle.std.proofs.lemmas.Bool.Decides.{nat_tests}
use Rattle.std.proofs.lemmas.List.Folds.{list_any-append}
use Rattle.ignore_pattern.specs.declared.place.Place.{Place}
use Rattle.ignore_pattern.specs.Classes.{compared, class_matches, ClassAt, class_items}
use Rattle.ignore_pattern.specs.Elements.{Element, Literal, Escaped, Any, Star, Folders, Everything, Class, is_inner, element_matches, elements_match, ElementAt, at, run_at, class_at, escaped_at, element_at, elements}
use Rattle.ignore_pattern.specs.Patterns.{has_slash}
use Rattle.ignore_pattern.specs.declared.place.Place.TheVariants.{Start, Elsewhere}
use Rattle.ignore_pattern.specs.inner.Views.{is_inside, are_inside}
use Rattle.bit_sets.proofs.lemmas.Booleans.{and_both, and_first, and_second}
use Rattle.bit_sets.proofs.lemmas.Cuts.{cut_of, empty_is, one_of}

not_false : (x : Bool) → IsTrue (not x) → x ≡ false
not_false true h = absurd (true≢false (sym h))
not_false false h = refl

-- ---- reading

abbrev OneInside : Option ElementAt → Type 0
OneInside None = Unit {0}
OneInside (Some e) = IsTrue (is_inside e.element)

abbrev AllInside : Option (List Element) → Type 0
AllInside None = Unit {0}
AllInside (Some es) = IsTrue (list_all is_inside es)

run_inside : (n : ℕ) (rest : List ℕ) → IsTrue (is_inside (run_at false n rest).element)
run_inside n rest = refl

escaped_inside : (cs : List ℕ) → has_slash cs ≡ false → OneInside (escaped_at cs)
escaped_inside [] h = tt
escaped_inside (c ∷ cs) h = ap not (or_parts (c == 47) (has_slash cs) h).0

class_inside : (skipped : ℕ) (negated : Bool) (o : Option ClassAt)
    → OneInside (elim o as (λ _. Option ElementAt) [ None ↦ None | Some class ↦ Some (at (Class negated class.0) (skipped + class.1) Elsewhere) ])
class_inside skipped negated None = tt
class_inside skipped negated (Some class) = refl

class_at_inside : (cs : List ℕ) → OneInside (class_at cs)
class_at_inside [] = tt
class_at_inside (c ∷ cs) =
    cond_both (c == 33 || c == 94) _ _ OneInside (λ e. class_inside 1 true (class_items zero true None cs)) (λ e. class_inside 0 false (class_items zero true None (c ∷ cs)))

element_inside : (place : Place) (c : ℕ) (cs : List ℕ) → has_slash (c ∷ cs) ≡ false → OneInside (element_at false place c cs)
unfolding element_at
element_inside place c cs h =
    cond_both (c == 92) _ _ OneInside (λ e. escaped_inside cs (or_parts (c == 47) (has_slash cs) h).1)
    (λ e. cond_both (c == 63) _ _ OneInside (λ e. refl)
    (λ e. cond_both (c == 42) _ _ OneInside (λ e. run_inside (prefix_len (λ d. d == 42) cs) (drop (prefix_len (λ d. d == 42) cs) cs))
    (λ e. cond_both (c == 91) _ _ OneInside (λ e. class_at_inside cs) (λ e. ap not (or_parts (c == 47) (has_slash cs) h).0))))

-- an element before the others
abbrev with_element : Element → Option (List Element) → Option (List Element)
with_element e o = option_map (λ es. e ∷ es) o

with_inside : (e : Element) (o : Option (List Element)) → IsTrue (is_inside e) → AllInside o → AllInside (with_element e o)
with_inside e None h all = tt
with_inside e (Some es) h all = and_both (is_inside e) (list_all is_inside es) h all

step_inside : (o : Option ElementAt) (cs : List ℕ) → OneInside o → ((place : Place) (n : ℕ) → AllInside (elements false place n cs))
    → AllInside (elim o as (λ _. Option (List Element)) [ None ↦ None | Some e ↦ with_element e.element (elements false e.place e.more cs) ])
step_inside None cs h all = tt
step_inside (Some e) cs h all = with_inside e.element (elements false e.place e.more cs) h (all e.place e.more)

all_inside : (cs : List ℕ) (place : Place) (n : ℕ) → has_slash cs ≡ false → AllInside (elements false place n cs)
unfolding elements
all_inside [] place zero h = refl
all_inside [] place (suc n) h = refl
all_inside (c ∷ cs) place (suc n) h = all_inside cs place n (or_parts (c == 47) (has_slash cs) h).1
all_inside (c ∷ cs) place zero h = step_inside (element_at false place c cs) cs (element_inside place c cs h) (λ p n. all_inside cs p n (or_parts (c == 47) (has_slash cs) h).1)

read_inside : (cs : List ℕ) (place : Place) (es : List Element) → has_slash cs ≡ false → Some es ≡ elements false place zero cs → IsTrue (list_all is_inside es)
read_inside cs place es h e = subst AllInside (sym e) (all_inside cs place zero h)

pub inside_with : (whole : Bool) (cs : List ℕ) (es : List Element) → (IsTrue (has_slash cs) → IsTrue whole) → Some es ≡ elements whole Start zero cs → are_inside whole es ≡ true
inside_with true cs es h e = refl
inside_with false cs es h e = read_inside cs Start es (false_from_ne_true (has_slash cs) (λ some. true≢false (sym (h some)))) e

-- ---- matching

inner_is : (x : List ℕ) → IsTrue (list_all is_inner x) → has_slash x ≡ false
inner_is [] h = refl
inner_is (c ∷ cs) h =
    or_from (c == 47) (has_slash cs) (not_false (c == 47) (and_first (is_inner c) (list_all is_inner cs) h)) (inner_is cs (and_second (is_inner c) (list_all is_inner cs) h))

-- one byte that is no `/`
single : (x : List ℕ) (c : ℕ) → x ≡ c ∷ [] → (c ≡ 47 → ⊥) → has_slash x ≡ false
single x c is other = subst (λ l. has_slash l ≡ false) (sym is) (grind (arith, nat_tests))

lower_slash : (c : ℕ) → to_ascii_lowercase c ≡ 47 → c ≡ 47
lower_slash c e = grind (arith, nat_tests)

compared_slash : (ignore_case : Bool) (c : ℕ) → compared ignore_case c ≡ 47 → c ≡ 47
compared_slash true c e = lower_slash c e
compared_slash false c e = e

slash_compared : (ignore_case : Bool) → compared ignore_case 47 ≡ 47
slash_compared true = refl
slash_compared false = refl

inner_not : (c : ℕ) → IsTrue (is_inner c) → c ≡ 47 → ⊥
inner_not c h e = true≢false (sym h ∙ ap not (eq-eqb c 47 e))

one_inside : (ignore_case : Bool) (e : Element) (x : List ℕ) → IsTrue (is_inside e) → IsTrue (element_matches ignore_case e x) → has_slash x ≡ false
unfolding class_matches
one_inside ignore_case (Literal c) x inside h =
    let (d, is, same) = one_of (λ byte. compared ignore_case byte == compared ignore_case c) x h in
    single x d is (λ e. inner_not c inside (compared_slash ignore_case c
    (sym (eqb-true (compared ignore_case d) (compared ignore_case c) same) ∙ ap (compared ignore_case) e ∙ slash_compared ignore_case)))
one_inside ignore_case (Escaped c) x inside h =
    let (d, is, same) = one_of (λ byte. compared ignore_case byte == c) x h in
    single x d is (λ e. inner_not c inside (sym (eqb-true (compared ignore_case d) c same) ∙ ap (compared ignore_case) e ∙ slash_compared ignore_case))
one_inside ignore_case Any x inside h = let (d, is, inner) = one_of is_inner x h in single x d is (inner_not d inner)
one_inside ignore_case Star x inside h = inner_is x h
one_inside ignore_case Folders x inside h = absurd (true≢false (sym inside))
one_inside ignore_case Everything x inside h = absurd (true≢false (sym inside))
one_inside ignore_case (Class negated items) x inside h =
    let (d, is, has) = one_of (class_matches ignore_case negated items) x h in single x d is (inner_not d (and_first (not (d == 47)) _ has))

pub match_inside : (ignore_case : Bool) (es : List Element) (x : List ℕ) → IsTrue (list_all is_inside es) → IsTrue (elements_match ignore_case es x) → has_slash x ≡ false
unfolding elements_match
match_inside ignore_case [] x inside h = ap has_slash (empty_is x h)
match_inside ignore_case (e ∷ es) x inside h =
    let (y, z, cut, both) = cut_of (λ front back. element_matches ignore_case e front && elements_match ignore_case es back) x h in
    let first : has_slash y ≡ false = one_inside ignore_case e y (and_first (is_inside e) (list_all is_inside es) inside) (and_first (element_matches ignore_case e y) (elements_match ignore_case es z) both) in
    let others : has_slash z ≡ false = match_inside ignore_case es z (and_second (is_inside e) (list_all is_inside es) inside) (and_second (element_matches ignore_case e y) (elements_match ignore_case es z) both) in
    ap has_slash cut ∙ list_any-append (λ c. c == 47) y z ∙ or_from (has_slash y) (has_slash z) first others
