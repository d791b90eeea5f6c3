-- States that lead to an end without a byte.
use Rattle.std.proofs.Common.{◌≡◌, ℕ, zero, suc, length, slice_index, ◌+◌, ◌<◌, ◌≤◌, inl, inr, Bool, true, false, true≢false, ◌||◌, List, [], ◌∷◌, IsTrue, refl, sym, ◌∙◌, ap, subst, arith, ne_eqb, eq-eqb}
use Rattle.std.specs.Prelude.{◌↔◌, ◌==◌}
use Rattle.std.proofs.lemmas.Bool.{cases_lt, or_cases, eqb-true}
use Rattle.std.proofs.Math.Logic.{⊎_elim}
use Rattle.byte_nfa.specs.Steps.{State, state, Accepts}
use Rattle.bit_sets.specs.Numbers.{has_number}
use Rattle.byte_nfa.specs.inner.Pass.{EndsBy}
use Rattle.byte_nfa.specs.inner.Views.{GoesBelow}
use Rattle.byte_nfa.proofs.lemmas.Pass.{Step, step_there, step_back, goes_below_later, or_first, or_second}

-- the places of a list

pub listed_at : (xs : List ℕ) (i : ℕ) → i < length xs → has_number (slice_index xs i) xs ≡ true
listed_at [] i lt = absurd (omega arith)
listed_at (x ∷ xs) zero lt = or_first (x == x) (has_number x xs) (eq-eqb x x refl)
listed_at (x ∷ xs) (suc i) lt = or_second (slice_index xs i == x) (has_number (slice_index xs i) xs) (listed_at xs i (omega arith))

pub listed_place : (t : ℕ) (xs : List ℕ) → has_number t xs ≡ true → (j : ℕ) × (j < length xs) × (t ≡ slice_index xs j)
listed_place t [] h = absurd (true≢false (sym h))
listed_place t (x ∷ xs) h = ⊎_elim {C = (j : ℕ) × (j < suc (length xs)) × (t ≡ slice_index (x ∷ xs) j)}
    (λ here. (0, omega arith, eqb-true t x here))
    (λ later. let (j, lt, is) = listed_place t xs later in (suc j, omega arith, is))
    (or_cases (t == x) (has_number t xs) h)

module _ (a : List State) where
  abbrev pub LeadsToEnd : ℕ → Type 0
  LeadsToEnd s = (k : ℕ) × Accepts a k s []

  ends_by : (s : ℕ) (accepting : ℕ → Bool) → GoesBelow s (state a s) → ((u : ℕ) → u < s → IsTrue (accepting u) ↔ LeadsToEnd u) → EndsBy (state a s) accepting ↔ LeadsToEnd s
  ends_by s accepting below low = (there, λ (k, h). back k (step_there a s k [] h))
    where
      there : EndsBy (state a s) accepting → LeadsToEnd s
      there (inl (k, is)) = (k, step_back a s k [] (state a s) refl (inr (inr (refl, is))))
      there (inr (t, go, at)) =
          let (k, h) = (low t (goes_below_later s (state a s) below t go)).0 at in
          (k, step_back a s k [] (state a s) refl (inl (t, go, h)))

      back : (k : ℕ) → Step a s [] k (state a s) → EndsBy (state a s) accepting
      back k (inl (t, go, h)) = inr (t, go, (low t (goes_below_later s (state a s) below t go)).1 (k, h))
      back k (inr (inl (c, z, t, cut, go, h))) = absurd cc
      back k (inr (inr (nil, is))) = inl (k, is)

  -- the states below s are in the set exactly if they lead to an end, and no others are in it
  pub record AreAcceptingTo (s : ℕ) (accepting : ℕ → Bool) : Type 0 where
    pub low : (u : ℕ) → u < s → IsTrue (accepting u) ↔ LeadsToEnd u
    pub high : (u : ℕ) → s ≤ u → accepting u ≡ false

  -- the state s is put in
  pub ending_put : (s : ℕ) (old new : ℕ → Bool) → AreAcceptingTo s old → GoesBelow s (state a s) → EndsBy (state a s) old → ((u : ℕ) → new u ≡ ((u == s) || old u)) → AreAcceptingTo (s + 1) new
  ending_put s old new are below ends has = record {
    low = λ u lt. ⊎_elim {C = IsTrue (new u) ↔ LeadsToEnd u}
        (λ before. subst (λ b. IsTrue b ↔ LeadsToEnd u) (sym (other u (omega arith))) (are.low u before))
        (λ past. let is : u ≡ s = omega arith in subst (λ v. IsTrue (new v) ↔ LeadsToEnd v) (sym is)
        (λ _. (ends_by s old below are.low).0 ends, λ _. has s ∙ ap (λ b. b || old s) (eq-eqb s s refl)))
        (cases_lt u s);
    high = λ u le. other u (omega arith) ∙ are.high u (omega arith);
  }
    where
      other : (u : ℕ) → (u ≡ s → ⊥) → new u ≡ old u
      other u ne = has u ∙ ap (λ b. b || old u) (ne_eqb u s ne)

  -- the state s is not put in
  pub ending_passed : (s : ℕ) (old : ℕ → Bool) → AreAcceptingTo s old → GoesBelow s (state a s) → (EndsBy (state a s) old → ⊥) → AreAcceptingTo (s + 1) old
  ending_passed s old are below none = record {
    low = λ u lt. ⊎_elim {C = IsTrue (old u) ↔ LeadsToEnd u}
        (λ before. are.low u before)
        (λ past. let is : u ≡ s = omega arith in subst (λ v. IsTrue (old v) ↔ LeadsToEnd v) (sym is)
        (λ at. absurd (true≢false (sym at ∙ are.high s (omega arith))), λ h. absurd (none ((ends_by s old below are.low).1 h))))
        (cases_lt u s);
    high = λ u le. are.high u (omega arith);
  }
