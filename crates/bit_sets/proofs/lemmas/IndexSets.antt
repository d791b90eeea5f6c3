-- Indexes that are put into a set beside what it has.
use Rattle.std.proofs.Common.{◌≡◌, ℕ, zero, suc, ◌<◌, ◌≤◌, ◌⊎◌, inl, inr, List, [], ◌∷◌, ◌++◌, IsTrue, sym, ◌∙◌, arith}
use Rattle.std.specs.Prelude.{◌||◌, ◌==◌, Contains}
use Rattle.std.proofs.Math.Logic.{⊎_elim}
use Rattle.std.proofs.lemmas.Bool.{or_cases, eqb-true, eq-eqb, or_left, or_right}
use Rattle.std.proofs.lemmas.List.Elements.{Contains-append_left, Contains-append_right, Contains-append_cases}
use Rattle.bit_sets.specs.Indexes.{has_index, index_capacity, HasAlso}
use Rattle.bit_sets.specs.declared.index_set.IndexSet.{IndexSet}

pub in_one : (x k : ℕ) → Contains (x ∷ []) k → x ≡ k
in_one x k (zero, lt, e) = e
in_one x k (suc j, lt, e) = absurd (omega (arith, lt))

pub also_none : (a b : IndexSet) → ((k : ℕ) → has_index b k ≡ has_index a k) → HasAlso a b []
also_none a b same = λ k. (
  λ h. inr (sym (same k) ∙ h),
  λ h. ⊎_elim {C = IsTrue (has_index b k)} (λ new. let (j, lt, e) = new.0 in absurd (omega (arith, lt))) (λ old. same k ∙ old) h,
)

pub also_then : (a b c : IndexSet) (xs ys : List ℕ) → index_capacity b ≡ index_capacity a → HasAlso a b xs → HasAlso b c ys → HasAlso a c (xs ++ ys)
also_then a b c xs ys room first second = λ k. (
  λ h. ⊎_elim {C = (Contains (xs ++ ys) k × (k < index_capacity a)) ⊎ IsTrue (has_index a k)}
      (λ new. inl (Contains-append_right xs ys k new.0, omega (arith, new.1, room)))
      (λ old. ⊎_elim {C = (Contains (xs ++ ys) k × (k < index_capacity a)) ⊎ IsTrue (has_index a k)}
      (λ new. inl (Contains-append_left xs ys k new.0, new.1)) (λ older. inr older) ((first k).0 old))
      ((second k).0 h),
  λ h. ⊎_elim {C = IsTrue (has_index c k)}
      (λ new. ⊎_elim {C = IsTrue (has_index c k)}
      (λ front. (second k).1 (inr ((first k).1 (inl (front, new.1)))))
      (λ back. (second k).1 (inl (back, omega (arith, new.1, room))))
      (Contains-append_cases xs ys k new.0))
      (λ older. (second k).1 (inr ((first k).1 (inr older)))) h,
)

-- an index that there is room for
pub also_put : (a b : IndexSet) (x : ℕ) → x < index_capacity a → ((k : ℕ) → has_index b k ≡ ((k == x) || has_index a k)) → HasAlso a b (x ∷ [])
also_put a b x room has = λ k. (
  λ h. ⊎_elim {C = (Contains (x ∷ []) k × (k < index_capacity a)) ⊎ IsTrue (has_index a k)}
      (λ is. let same : k ≡ x = eqb-true k x is in inl ((0, omega arith, sym same), omega (arith, same, room)))
      (λ old. inr old) (or_cases (k == x) (has_index a k) (sym (has k) ∙ h)),
  λ h. ⊎_elim {C = IsTrue (has_index b k)}
      (λ new. has k ∙ or_left (k == x) (has_index a k) (eq-eqb k x (sym (in_one x k new.0))))
      (λ old. has k ∙ or_right (k == x) (has_index a k) old) h,
)

-- an index that there is no room for
pub also_left : (a : IndexSet) (x : ℕ) → index_capacity a ≤ x → HasAlso a a (x ∷ [])
also_left a x past = λ k. (
  λ h. inr h,
  λ h. ⊎_elim {C = IsTrue (has_index a k)}
      (λ new. absurd (omega (arith, in_one x k new.0, new.1, past))) (λ old. old) h,
)
