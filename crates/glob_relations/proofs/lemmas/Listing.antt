-- States of a set that are appended to a list.
use Rattle.std.proofs.Common.{◌≡◌, ℕ, ◌+◌, ◌<◌, ◌≤◌, Bool, true, false, ◌||◌, true≢false, List, [], ◌∷◌, ◌++◌, length, slice_index, IsTrue, arith, refl, sym, ap, subst, ◌∙◌, length-append}
use Rattle.std.specs.Prelude.{◌↔◌, ◌==◌}
use Rattle.std.proofs.lemmas.Bool.{cases_lt, eq-eqb, eqb-true, or_cases}
use Rattle.std.proofs.lemmas.List.{get_or_append_left}
use Rattle.std.proofs.Math.Logic.{⊎_elim}
use Rattle.std.proofs.Math.Seq.{get_or-append_seam}
use Rattle.bit_sets.specs.Numbers.{has_number, AreBelow}
use Rattle.bit_sets.proofs.lemmas.Lists.{listed_push}
use Rattle.byte_nfa.proofs.lemmas.Accepting.{listed_at}
use Rattle.byte_nfa.proofs.lemmas.Pass.{or_first, or_second}

-- the states down to s are listed: s is in the set, and no state between it and the bound before
module _ (n s high : ℕ) (set : ℕ → Bool) (list : List ℕ) (lt : s < high) (le : high ≤ n) (between : (k : ℕ) → s < k → k < high → set k ≡ false)
    (has : (t : ℕ) → IsTrue (has_number t list) ↔ ((high ≤ t) × (t < n) × IsTrue (set t))) where
  pub listed_more : IsTrue (set s) → (t : ℕ) → IsTrue (has_number t (list ++ s ∷ [])) ↔ ((s ≤ t) × (t < n) × IsTrue (set t))
  listed_more here t = (there, λ (low, small, at). back low small at)
    where
      there : IsTrue (has_number t (list ++ s ∷ [])) → (s ≤ t) × (t < n) × IsTrue (set t)
      there h = ⊎_elim {C = (s ≤ t) × (t < n) × IsTrue (set t)} (λ old. let (low, small, at) = (has t).0 old in (omega arith, small, at))
          (λ e. let is : t ≡ s = eqb-true t s e in (omega arith, omega arith, subst (λ u. IsTrue (set u)) (sym is) here))
          (or_cases (has_number t list) (t == s) (sym (listed_push t s list) ∙ h))

      back : s ≤ t → t < n → IsTrue (set t) → IsTrue (has_number t (list ++ s ∷ []))
      back low small at = ⊎_elim {C = IsTrue (has_number t (list ++ s ∷ []))}
          (λ under. ⊎_elim {C = IsTrue (has_number t (list ++ s ∷ []))} (λ over. absurd (true≢false (sym at ∙ between t over under)))
          (λ down. let is : t ≡ s = omega arith in listed_push t s list ∙ or_second (has_number t list) (t == s) (eq-eqb t s is)) (cases_lt s t))
          (λ above. listed_push t s list ∙ or_first (has_number t list) (t == s) ((has t).1 (above, small, at)))
          (cases_lt t high)

-- a lower number after others
pub descending_push : (s high : ℕ) (list : List ℕ) → s < high → ((t : ℕ) → IsTrue (has_number t list) → high ≤ t) → ((i : ℕ) → i + 1 < length list → slice_index list (i + 1) < slice_index list i)
    → (i : ℕ) → i + 1 < length (list ++ s ∷ []) → slice_index (list ++ s ∷ []) (i + 1) < slice_index (list ++ s ∷ []) i
descending_push s high list lt each before i small =
    let len = length-append list (s ∷ []) in
    let lower : i < length list = omega arith in
    let here : slice_index (list ++ s ∷ []) i ≡ slice_index list i = get_or_append_left list (s ∷ []) 0 i lower in
    ⊎_elim {C = slice_index (list ++ s ∷ []) (i + 1) < slice_index (list ++ s ∷ []) i}
    (λ low. rw (get_or_append_left list (s ∷ []) 0 (i + 1) low, here) (before i low))
    (λ past.
    let e : i + 1 ≡ length list = omega arith in
    let last : slice_index (list ++ s ∷ []) (i + 1) ≡ s = ap (slice_index (list ++ s ∷ [])) e ∙ get_or-append_seam list s [] 0 in
    let above : high ≤ slice_index list i = each (slice_index list i) (listed_at list i lower) in
    omega (arith, last, here, above))
    (cases_lt (i + 1) (length list))
