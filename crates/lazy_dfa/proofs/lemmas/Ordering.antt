-- Lists that are put in order.
use Rattle.std.proofs.Common.{◌≡◌, ℕ, zero, suc, ◌<◌, List, [], ◌∷◌, length, slice_index, IsTrue, refl, sym, ◌∙◌, subst, arith}
use Rattle.std.specs.Prelude.{◌↔◌, slice_index_or}
use Rattle.std.specs.List.{Contains}
use Rattle.std.specs.List.Sorted.{IsPermutation}
use Rattle.std.proofs.lemmas.List.Sorted.{Contains-permutation, IsPermutation-sym}
use Rattle.bit_sets.specs.Numbers.{has_number, AreBelow}
use Rattle.byte_nfa.specs.Steps.{NfaValue}
use Rattle.byte_nfa.specs.Runs.{AcceptsIn}
use Rattle.byte_nfa.proofs.lemmas.After.{has_number_at, number_place}

pub in_range : (xs : List ℕ) (k d : ℕ) → k < length xs → slice_index_or xs k d ≡ slice_index xs k
in_range [] k d lt = absurd (omega (arith, lt))
in_range (x ∷ xs) zero d lt = refl
in_range (x ∷ xs) (suc k) d lt = in_range xs k d (omega (arith, lt))

pub contained : (xs : List ℕ) (t : ℕ) → IsTrue (has_number t xs) → Contains xs t
contained xs t has = let (k, lt, is) = number_place t xs has in (k, lt, in_range xs k t lt ∙ is)

pub had : (xs : List ℕ) (t : ℕ) → Contains xs t → IsTrue (has_number t xs)
had xs t (k, lt, is) = subst (λ x. IsTrue (has_number x xs)) (sym (in_range xs k t lt) ∙ is) (has_number_at xs k lt)

-- numbers that are only moved
pub has_moved : (xs ys : List ℕ) → IsPermutation xs ys → (t : ℕ) → IsTrue (has_number t ys) ↔ IsTrue (has_number t xs)
has_moved xs ys moved t = (
  λ h. had xs t (Contains-permutation ys xs t (IsPermutation-sym xs ys moved) (contained ys t h)),
  λ h. had ys t (Contains-permutation xs ys t moved (contained xs t h)),
)

-- lists of the same numbers
pub below_same : (bound : ℕ) (xs ys : List ℕ) → ((t : ℕ) → IsTrue (has_number t ys) ↔ IsTrue (has_number t xs)) → AreBelow bound xs → AreBelow bound ys
below_same bound xs ys same below i lt =
    let (k, small, is) = number_place (slice_index ys i) xs ((same (slice_index ys i)).0 (has_number_at ys i lt)) in
    subst (λ x. x < bound) is (below k small)

pub accepts_same : (m : NfaValue) (xs ys : List ℕ) → ((t : ℕ) → IsTrue (has_number t ys) ↔ IsTrue (has_number t xs)) → (y : List ℕ) (k : ℕ) → AcceptsIn m xs y k ↔ AcceptsIn m ys y k
accepts_same m xs ys same y k = (λ (t, at, h). (t, (same t).1 at, h), λ (t, at, h). (t, (same t).0 at, h))
