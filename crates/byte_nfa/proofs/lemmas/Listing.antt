-- Members of lists, and numbers that are in them already.
use Rattle.std.proofs.Common.{◌≡◌, ℕ, zero, suc, ◌||◌, ◌∷◌, [], inl, inr, Bool, true, false, List, IsTrue, refl, sym, subst, arith}
use Rattle.std.specs.Prelude.{◌==◌, ◌↔◌, IsPermutation}
use Rattle.std.specs.List.{Contains}
use Rattle.std.proofs.lemmas.Bool.{eqb-true}
use Rattle.std.proofs.lemmas.List.Sorted.{Contains-permutation, IsPermutation-sym}
use Rattle.bit_sets.specs.Numbers.{has_number}
use Rattle.byte_nfa.specs.Steps.{HasNumber}

pub or_swapped : (a b : Bool) → (a || b) ≡ (b || a)
or_swapped true true = refl
or_swapped true false = refl
or_swapped false true = refl
or_swapped false false = refl

-- a number that is in the list changes nothing
pub in_already : (t n : ℕ) (list : List ℕ) → IsTrue (has_number n list) → has_number t list ≡ ((t == n) || has_number t list)
in_already t n list at = cases (t == n) refl
  where
    cases : (b : Bool) → (t == n) ≡ b → has_number t list ≡ (b || has_number t list)
    cases true same = subst (λ u. IsTrue (has_number u list)) (sym (eqb-true t n same)) at
    cases false other = refl

-- members

pub in_contains : (s : ℕ) (xs : List ℕ) → HasNumber s xs → Contains xs s
in_contains s [] h = absurd h
in_contains s (x ∷ xs) (inl e) = (0, omega arith, sym e)
in_contains s (x ∷ xs) (inr h) = let (i, lt, is) = in_contains s xs h in (suc i, omega arith, is)

pub contains_in : (s : ℕ) (xs : List ℕ) → Contains xs s → HasNumber s xs
contains_in s [] (i, lt, is) = absurd (omega arith)
contains_in s (x ∷ xs) (zero, lt, is) = inl (sym is)
contains_in s (x ∷ xs) (suc i, lt, is) = inr (contains_in s xs (i, omega arith, is))

pub members_permuted : (xs ys : List ℕ) → IsPermutation xs ys → (s : ℕ) → HasNumber s ys ↔ HasNumber s xs
members_permuted xs ys moved s = (
  λ h. contains_in s xs (Contains-permutation ys xs s (IsPermutation-sym xs ys moved) (in_contains s ys h)),
  λ h. contains_in s ys (Contains-permutation xs ys s moved (in_contains s xs h)),
)
