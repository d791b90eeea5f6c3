-- Classes of bytes, made one byte after another.
use Rattle.std.proofs.Common.{◌≡◌, ◌≢◌, ℕ, ◌+◌, ◌<◌, ◌≤◌, List, length, slice_index, slice_set, refl, ap, sym, ◌∙◌, subst, arith}
use Rattle.std.proofs.lemmas.Bool.{cases_lt}
use Rattle.std.proofs.lemmas.List.{get_or-set_same, get_or-set_other}
use Rattle.std.proofs.Math.Logic.{⊎_elim}
use Rattle.byte_nfa.specs.Steps.{State}
use Rattle.byte_nfa.specs.Equivalent.{AreEquivalent}

-- each byte below the bound has a class up to the last, and is read as the first byte of the class
abbrev pub AreEquivalenceClassesBelow : List State → List ℕ → List ℕ → ℕ → ℕ → Type 0
AreEquivalenceClassesBelow a class_of representatives last bound =
    (b : ℕ) → b < bound → (slice_index class_of b ≤ last) × AreEquivalent a (slice_index representatives (slice_index class_of b)) b

module _ (a : List State) (class_of representatives : List ℕ) (last i : ℕ) (old : AreEquivalenceClassesBelow a class_of representatives last i) (room : i < length class_of) where
  -- a byte more, in a class that is there
  pub equivalence_same : (class : ℕ) → (class ≤ last) × AreEquivalent a (slice_index representatives class) i → AreEquivalenceClassesBelow a (slice_set class_of i class) representatives last (i + 1)
  equivalence_same class equivalent b lt = ⊎_elim {C = (slice_index (slice_set class_of i class) b ≤ last) × AreEquivalent a (slice_index representatives (slice_index (slice_set class_of i class) b)) b}
      (λ low. let ne : b ≢ i = omega arith in let same : slice_index (slice_set class_of i class) b ≡ slice_index class_of b = get_or-set_other class_of i b class 0 ne in
      subst (λ c. (c ≤ last) × AreEquivalent a (slice_index representatives c) b) (sym same) (old b low))
      (λ past. let is : b ≡ i = omega arith in let here : slice_index (slice_set class_of i class) b ≡ class = ap (slice_index (slice_set class_of i class)) is ∙ get_or-set_same class_of i class 0 room in
      subst (λ c. (c ≤ last) × AreEquivalent a (slice_index representatives c) b) (sym here) (equivalent.0, subst (AreEquivalent a (slice_index representatives class)) (sym is) equivalent.1))
      (cases_lt b i)

  -- the first byte of a class
  pub equivalence_next : last + 1 < length representatives → AreEquivalenceClassesBelow a (slice_set class_of i (last + 1)) (slice_set representatives (last + 1) i) (last + 1) (i + 1)
  equivalence_next space b lt = ⊎_elim {C = (slice_index (slice_set class_of i (last + 1)) b ≤ last + 1) × AreEquivalent a (slice_index (slice_set representatives (last + 1) i) (slice_index (slice_set class_of i (last + 1)) b)) b}
      (λ low.
      let ne : b ≢ i = omega arith in
      let same : slice_index (slice_set class_of i (last + 1)) b ≡ slice_index class_of b = get_or-set_other class_of i b (last + 1) 0 ne in
      let (le, equivalent) = old b low in
      let ne' : slice_index class_of b ≢ last + 1 = omega arith in
      let same' : slice_index (slice_set representatives (last + 1) i) (slice_index class_of b) ≡ slice_index representatives (slice_index class_of b) = get_or-set_other representatives (last + 1) (slice_index class_of b) i 0 ne' in
      subst (λ c. (c ≤ last + 1) × AreEquivalent a (slice_index (slice_set representatives (last + 1) i) c) b) (sym same) (omega arith, subst (λ f. AreEquivalent a f b) (sym same') equivalent))
      (λ past.
      let is : b ≡ i = omega arith in
      let here : slice_index (slice_set class_of i (last + 1)) b ≡ last + 1 = ap (slice_index (slice_set class_of i (last + 1))) is ∙ get_or-set_same class_of i (last + 1) 0 room in
      let first : slice_index (slice_set representatives (last + 1) i) (last + 1) ≡ b = get_or-set_same representatives (last + 1) i 0 space ∙ sym is in
      subst (λ c. (c ≤ last + 1) × AreEquivalent a (slice_index (slice_set representatives (last + 1) i) c) b) (sym here) (omega arith, subst (λ f. AreEquivalent a f b) (sym first) (λ s. refl)))
      (cases_lt b i)
