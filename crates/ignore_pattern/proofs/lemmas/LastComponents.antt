-- A last component is what is after folders.
use Rattle.std.proofs.Common.{◌≡◌, ℕ, Bool, true, false, true≢false, ◌&&◌, ◌||◌, List, [], ◌∷◌, ◌++◌, IsTrue, refl, sym, ◌∙◌, ap, subst}
use Rattle.std.specs.Prelude.{◌↔◌, ◌==◌}
use Rattle.std.specs.List.{list_all}
use Rattle.bit_sets.specs.Texts.{ends_with}
use Rattle.ignore_pattern.specs.Elements.{Element, Folders, element_matches, elements_match}
use Rattle.ignore_pattern.specs.Patterns.{has_slash, last_component}
use Rattle.ignore_pattern.specs.inner.Views.{is_inside}
use Rattle.bit_sets.proofs.lemmas.Booleans.{and_both, and_first, and_second, or_first, or_second}
use Rattle.std.proofs.lemmas.Bool.{eq-eqb, eqb-true}
use Rattle.bit_sets.proofs.lemmas.Cuts.{both, cut_of, some_cut-append}
use Rattle.ignore_pattern.proofs.lemmas.Inside.{match_inside}

no_slash : (z : List ℕ) → has_slash z ≡ false → last_component z ≡ z
no_slash [] h = refl
no_slash (c ∷ cs) h = rw h refl

with_slash : (c : ℕ) (cs : List ℕ) → has_slash (c ∷ cs) ≡ true → last_component (c ∷ cs) ≡ last_component cs
with_slash c cs h = rw h refl

same_byte : (c : ℕ) → IsTrue (47 == c) → (c == 47) ≡ true
same_byte c h = eq-eqb c 47 (sym (eqb-true 47 c h))

ends_has : (y z : List ℕ) → IsTrue (ends_with 47 y) → has_slash (y ++ z) ≡ true
ends_has [] z h = absurd (true≢false (sym h))
ends_has (c ∷ []) z h = or_first (c == 47) (has_slash z) (same_byte c h)
ends_has (c ∷ d ∷ ds) z h = or_second (c == 47) (has_slash (d ∷ (ds ++ z))) (ends_has (d ∷ ds) z h)

after_folders : (y z : List ℕ) → has_slash z ≡ false → IsTrue (element_matches false Folders y) → last_component (y ++ z) ≡ z
after_folders [] z none h = no_slash z none
after_folders (c ∷ []) z none h = with_slash c z (ends_has (c ∷ []) z h) ∙ no_slash z none
after_folders (c ∷ d ∷ ds) z none h = with_slash c (d ∷ (ds ++ z)) (ends_has (c ∷ d ∷ ds) z h) ∙ after_folders (d ∷ ds) z none h

last_has_none : (path : List ℕ) → has_slash (last_component path) ≡ false
last_has_none [] = refl
last_has_none (c ∷ cs) = by_case (has_slash (c ∷ cs)) refl (last_has_none cs)
  where
    by_case : (q : Bool) → has_slash (c ∷ cs) ≡ q → has_slash (last_component cs) ≡ false → has_slash (last_component (c ∷ cs)) ≡ false
    by_case true e none = ap has_slash (with_slash c cs e) ∙ none
    by_case false e none = ap has_slash (no_slash (c ∷ cs) e) ∙ e

only_first : (c : ℕ) (cs : List ℕ) → has_slash (c ∷ cs) ≡ true → has_slash cs ≡ false → (47 == c) ≡ true
only_first c cs some none = by_case (c == 47) refl
  where
    by_case : (q : Bool) → (c == 47) ≡ q → (47 == c) ≡ true
    by_case true e = eq-eqb 47 c (sym (eqb-true c 47 e))
    by_case false e = absurd (true≢false (sym some ∙ (λ i. e i || none i)))

-- the bytes before the last component
abbrev SplitLast : List ℕ → Type 0
SplitLast path = (y : List ℕ) × (path ≡ y ++ last_component path) × IsTrue (element_matches false Folders y)

split_last : (path : List ℕ) → SplitLast path
split_last [] = ([], refl, refl)
split_last (c ∷ cs) = by_case (has_slash (c ∷ cs)) refl (split_last cs)
  where
    more : has_slash (c ∷ cs) ≡ true → (y : List ℕ) → cs ≡ y ++ last_component cs → IsTrue (element_matches false Folders y) → IsTrue (ends_with 47 (c ∷ y))
    more some [] cut h = only_first c cs some (ap has_slash cut ∙ last_has_none cs)
    more some (d ∷ ds) cut h = h

    by_case : (q : Bool) → has_slash (c ∷ cs) ≡ q → SplitLast cs → SplitLast (c ∷ cs)
    by_case false e later = ([], sym (no_slash (c ∷ cs) e), refl)
    by_case true e (y, cut, h) =
        (c ∷ y, ap (λ l. c ∷ l) (cut ∙ ap (λ l. y ++ l) (sym (with_slash c cs e))), more e y cut h)

-- elements that match no `/`, after folders, match what their last components match
pub last_matches : (ignore_case : Bool) (es : List Element) (path : List ℕ) → IsTrue (list_all is_inside es)
    → IsTrue (both (element_matches false Folders) (elements_match ignore_case es) path) ↔ IsTrue (elements_match ignore_case es (last_component path))
last_matches ignore_case es path inside = (
  λ some. let (y, z, cut, pq) = cut_of (λ front back. element_matches false Folders front && elements_match ignore_case es back) path some in
      let folders = and_first (element_matches false Folders y) (elements_match ignore_case es z) pq in
      let matched = and_second (element_matches false Folders y) (elements_match ignore_case es z) pq in
      subst (λ l. IsTrue (elements_match ignore_case es l)) (sym (ap last_component cut ∙ after_folders y z (match_inside ignore_case es z inside matched) folders)) matched,
  λ h. let (y, cut, folders) = split_last path in
      subst (λ l. IsTrue (both (element_matches false Folders) (elements_match ignore_case es) l)) (sym cut)
      (some_cut-append (λ front back. element_matches false Folders front && elements_match ignore_case es back) y (last_component path)
      (and_both (element_matches false Folders y) (elements_match ignore_case es (last_component path)) folders h)),
)
