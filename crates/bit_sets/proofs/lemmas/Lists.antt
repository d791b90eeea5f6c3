-- Numbers that are appended to a list, and lists of the numbers that pass a test.
use Rattle.std.proofs.Common.{◌≡◌, ℕ, ◌+◌, ◌<◌, ◌≤◌, ◌||◌, Bool, true, false, true≢false, List, [], ◌∷◌, ◌++◌, length, slice_index, IsTrue, refl, ap, sym, ◌∙◌, subst, arith, length-append}
use Rattle.std.specs.Prelude.{◌↔◌, ◌==◌}
use Rattle.std.proofs.lemmas.Bool.{cases_lt, eq-eqb, eqb-true, or_cases, or_left as or_first, or_right as or_second}
use Rattle.std.proofs.lemmas.List.{get_or_append_left}
use Rattle.std.proofs.Math.Logic.{⊎_elim}
use Rattle.std.proofs.Math.Seq.{get_or-append_seam}
use Rattle.bit_sets.specs.Numbers.{has_number, AreBelow}

pub below_more : (bound n : ℕ) (list : List ℕ) → n < bound → AreBelow bound list → AreBelow bound (list ++ n ∷ [])
below_more bound n list lt below i within = ⊎_elim {C = slice_index (list ++ n ∷ []) i < bound}
    (λ low. subst (λ x. x < bound) (sym (get_or_append_left list (n ∷ []) 0 i low)) (below i low))
    (λ high.
    let last : i ≡ length list = omega (arith, high, within, length-append list (n ∷ [])) in
    subst (λ j. slice_index (list ++ n ∷ []) j < bound) (sym last) (subst (λ x. x < bound) (sym (get_or-append_seam list n [] 0)) lt))
    (cases_lt i (length list))

pub listed_push : (k x : ℕ) (xs : List ℕ) → has_number k (xs ++ x ∷ []) ≡ (has_number k xs || (k == x))
listed_push k x [] = swapped (k == x)
  where
    swapped : (p : Bool) → (p || false) ≡ (false || p)
    swapped true = refl
    swapped false = refl
listed_push k x (y ∷ ys) = ap (λ b. (k == y) || b) (listed_push k x ys) ∙ regroup (k == y) (has_number k ys) (k == x)
  where
    regroup : (p q r : Bool) → (p || (q || r)) ≡ ((p || q) || r)
    regroup true q r = refl
    regroup false q r = refl

-- the list of the numbers below j that pass a test; they are below n
pub record IsReportedTo (test : ℕ → Bool) (n j : ℕ) (list : List ℕ) : Type 0 where
  pub below : (x : ℕ) → x < length list → slice_index list x < n
  pub has : (k : ℕ) → IsTrue (has_number k list) ↔ ((k < j) × IsTrue (test k))

pub listed_none : (test : ℕ → Bool) (n : ℕ) → IsReportedTo test n 0 []
listed_none test n = record {
  below = λ x h. absurd (omega arith);
  has = λ k. (λ h. absurd (true≢false (sym h)), λ (lt, at). absurd (omega arith));
}

-- no number more up to j'
pub listed_past : (test : ℕ → Bool) (n j j' : ℕ) (list : List ℕ) → j ≤ j' → ((k : ℕ) → j ≤ k → k < j' → test k ≡ false) → IsReportedTo test n j list → IsReportedTo test n j' list
listed_past test n j j' list le off is = record {
  below = is.below;
  has = λ k. (
    λ h. let (lt, at) = (is.has k).0 h in (omega arith, at),
    λ (lt, at). (is.has k).1 (⊎_elim {C = k < j} (λ low. low) (λ past. absurd (true≢false (sym at ∙ off k past lt))) (cases_lt k j), at),
  );
}

-- the number j
pub listed_more : (test : ℕ → Bool) (n j : ℕ) (list : List ℕ) → j < n → IsTrue (test j) → IsReportedTo test n j list → IsReportedTo test n (j + 1) (list ++ j ∷ [])
listed_more test n j list lt_n here is = record {
  below = λ x h. let len = length-append list (j ∷ []) in ⊎_elim {C = slice_index (list ++ j ∷ []) x < n}
      (λ low. rw (get_or_append_left list (j ∷ []) 0 x low) (is.below x low))
      (λ past. let e : x ≡ length list = omega arith in rw (ap (slice_index (list ++ j ∷ [])) e ∙ get_or-append_seam list j [] 0) lt_n)
      (cases_lt x (length list));
  has = λ k. (
    λ h. ⊎_elim {C = (k < j + 1) × IsTrue (test k)}
        (λ old. let (lt, at) = (is.has k).0 old in (omega arith, at))
        (λ e. let is_j : k ≡ j = eqb-true k j e in (omega arith, subst (λ u. IsTrue (test u)) (sym is_j) here))
        (or_cases (has_number k list) (k == j) (sym (listed_push k j list) ∙ h)),
    λ (lt, at). ⊎_elim {C = IsTrue (has_number k (list ++ j ∷ []))}
        (λ low. listed_push k j list ∙ or_first (has_number k list) (k == j) ((is.has k).1 (low, at)))
        (λ past. let e : k ≡ j = omega arith in listed_push k j list ∙ or_second (has_number k list) (k == j) (eq-eqb k j e))
        (cases_lt k j),
  );
}
