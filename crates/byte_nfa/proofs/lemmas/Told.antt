-- What ends tell.
use Rattle.std.proofs.Common.{◌≡◌, ℕ, ◌+◌, ◌<◌, ◌≤◌, ◌==◌, ◌⊎◌, inl, inr, Bool, IsTrue, Some, refl, sym, subst, ◌∙◌, arith}
use Rattle.std.specs.Prelude.{◌↔◌, ◌||◌}
use Rattle.std.proofs.lemmas.Bool.{eqb-true, eq-eqb, or_cases}
use Rattle.std.proofs.Math.Logic.{⊎_elim}
use Rattle.byte_nfa.proofs.lemmas.Pass.{or_first, or_second}
use Rattle.byte_nfa.specs.inner.Told.{Tells, ToldBy}

-- what an end of the index i tells
told_is : (h i e k : ℕ) → ((i < h) × (e ≡ i)) ⊎ ((h ≤ i) × (e + h ≡ i)) → k < h → (i ≡ k) ⊎ (i ≡ h + k) → k ≡ e
told_is h i e k (inl (lt, is)) low (inl at) = omega arith
told_is h i e k (inl (lt, is)) low (inr at) = omega arith
told_is h i e k (inr (le, is)) low (inl at) = omega arith
told_is h i e k (inr (le, is)) low (inr at) = omega arith

tells_it : (h i e k : ℕ) → i < h + h → ((i < h) × (e ≡ i)) ⊎ ((h ≤ i) × (e + h ≡ i)) → k ≡ e → Tells h i k
tells_it h i e k small (inl (lt, is)) same = (omega arith, inl (omega arith))
tells_it h i e k small (inr (le, is)) same = (omega arith, inr (omega arith))

module _ (h : ℕ) (P : ℕ → Type 0) where
  small : (i k : ℕ) → Tells h i k → i < h + h
  small i k (low, inl is) = omega arith
  small i k (low, inr is) = omega arith

  -- by the same ends
  pub told_same : (lowest k : ℕ) (Q : ℕ → Type 0) → ((j : ℕ) → lowest ≤ j → j < h + h → P j ↔ Q j) → ToldBy h P lowest k ↔ ToldBy h Q lowest k
  told_same lowest k Q same = (λ (j, le, tells, p). (j, le, tells, (same j le (small j k tells)).0 p), λ (j, le, tells, q). (j, le, tells, (same j le (small j k tells)).1 q))

  -- an end is told
  pub told_more : (lowest k : ℕ) (was : Bool) (Q : ℕ → Type 0) (i e : ℕ) (is : Bool) → ((j : ℕ) → lowest ≤ j → P j ↔ (Q j ⊎ (Some i ≡ Some j))) → lowest ≤ i → i < h + h
      → ((i < h) × (e ≡ i)) ⊎ ((h ≤ i) × (e + h ≡ i)) → is ≡ ((k == e) || was) → (ToldBy h P lowest k ⊎ IsTrue was) ↔ (ToldBy h Q lowest k ⊎ IsTrue is)
  told_more lowest k was Q i e is ends from lt told has = (there, back)
    where
      Before : Type 0
      Before = ToldBy h P lowest k ⊎ IsTrue was

      After : Type 0
      After = ToldBy h Q lowest k ⊎ IsTrue is

      there : Before → After
      there (inl (j, le, (low, at), p)) = ⊎_elim {C = After} (λ q. inl (j, le, (low, at), q))
          (λ same. let is_it : i ≡ j = cc in inr (has ∙ or_first (k == e) was (eq-eqb k e (told_is h i e k told low (rw is_it at))))) ((ends j le).0 p)
      there (inr old) = inr (has ∙ or_second (k == e) was old)

      back : After → Before
      back (inl (j, le, tells, q)) = inl (j, le, tells, (ends j le).1 (inl q))
      back (inr new) = ⊎_elim {C = Before} (λ same. inl (i, from, tells_it h i e k lt told (eqb-true k e same), (ends i from).1 (inr refl))) (λ old. inr old) (or_cases (k == e) was (sym has ∙ new))

  -- no end is left
  pub told_all : (lowest k : ℕ) (was : Bool) {R : Type 0} → ((j : ℕ) → lowest ≤ j → j < h + h → P j → ⊥) → R ↔ (ToldBy h P lowest k ⊎ IsTrue was) → IsTrue was ↔ R
  told_all lowest k was none all = (λ on. all.1 (inr on), λ r. ⊎_elim {C = IsTrue was} (λ (j, le, tells, p). absurd (none j le (small j k tells) p)) (λ on. on) (all.0 r))

  -- by the ends that say that an index is decided, and by all
  pub told_decided : (k : ℕ) → ToldBy h P h k ↔ ((k < h) × P (h + k))
  told_decided k = (there, λ (lt, p). (h + k, omega arith, (lt, inr refl), p))
    where
      there : ToldBy h P h k → (k < h) × P (h + k)
      there (i, le, (lt, inl is), p) = absurd (omega arith)
      there (i, le, (lt, inr is), p) = (lt, subst P is p)

  pub told_either : (k : ℕ) → ToldBy h P 0 k ↔ ((k < h) × (P k ⊎ P (h + k)))
  told_either k = (there, back)
    where
      there : ToldBy h P 0 k → (k < h) × (P k ⊎ P (h + k))
      there (i, le, (lt, inl is), p) = (lt, inl (subst P is p))
      there (i, le, (lt, inr is), p) = (lt, inr (subst P is p))

      back : (k < h) × (P k ⊎ P (h + k)) → ToldBy h P 0 k
      back (lt, inl p) = (k, omega arith, (lt, inl refl), p)
      back (lt, inr p) = (h + k, omega arith, (lt, inr refl), p)
