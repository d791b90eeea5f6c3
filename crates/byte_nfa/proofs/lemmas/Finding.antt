-- What is found at the end of a text, and after beginnings of it.
use Rattle.std.proofs.Common.{◌≡◌, ℕ, ◌+◌, ◌-◌, ◌*◌, ◌<◌, ◌≤◌, ◌⊎◌, inl, inr, Bool, List, [], ◌∷◌, ◌++◌, IsTrue, refl, ap, subst, arith}
use Rattle.std.specs.Prelude.{◌↔◌}
use Rattle.std.proofs.lemmas.Bool.{cases_lt}
use Rattle.std.proofs.lemmas.Nat.{mul-le}
use Rattle.std.proofs.Math.Logic.{⊎_elim}
use Rattle.byte_nfa.proofs.lemmas.Pass.{iff_trans, iff_sym}
use Rattle.byte_nfa.proofs.lemmas.Told.{told_decided, told_same, told_either}
use Rattle.byte_nfa.specs.Steps.{NfaValue, IsReached}
use Rattle.byte_nfa.specs.EarlyMatches.{EndsAtEarlyMatches, half, FindsBy}
use Rattle.byte_nfa.proofs.lemmas.Deciding.{reached_by}
use Rattle.bit_sets.specs.Texts.{AllBytes}
use Rattle.byte_nfa.specs.inner.Told.{ToldBy}

-- a fact beside another that is replaced
pub iff_beside : {P Q S : Type 0} → (P ↔ Q) → (P ⊎ S) ↔ (Q ⊎ S)
iff_beside {P = P} {Q = Q} {S = S} f = (⊎_elim {C = Q ⊎ S} (λ p. inl (f.0 p)) (λ s. inr s), ⊎_elim {C = P ⊎ S} (λ q. inl (f.1 q)) (λ s. inr s))

module _ (n : ℕ) (P : List ℕ → ℕ → Type 0) where
  -- without a byte
  pub at_no_byte : (k : ℕ) → FindsBy n P [] k ↔ ((k < n) × (P [] k ⊎ P [] (n + k)))
  at_no_byte k = (there, back)
    where
      there : (k < n) × (P [] k ⊎ ((p : List ℕ) × (q : List ℕ) × ([] ≡ p ++ q) × P p (n + k))) → (k < n) × (P [] k ⊎ P [] (n + k))
      there (lt, inl a) = (lt, inl a)
      there (lt, inr ([], q, e, a)) = (lt, inr a)
      there (lt, inr (x ∷ p, q, e, a)) = absurd cc

      back : (k < n) × (P [] k ⊎ P [] (n + k)) → (k < n) × (P [] k ⊎ ((p : List ℕ) × (q : List ℕ) × ([] ≡ p ++ q) × P p (n + k)))
      back (lt, inl a) = (lt, inl a)
      back (lt, inr a) = (lt, inr ([], [], refl, a))

  -- by a byte
  pub at_byte : (Q : List ℕ → ℕ → Type 0) (b : ℕ) → ((y : List ℕ) (k : ℕ) → P (b ∷ y) k ↔ Q y k) → (y : List ℕ) (k : ℕ) → FindsBy n P (b ∷ y) k ↔ (FindsBy n Q y k ⊎ ((k < n) × P [] (n + k)))
  at_byte Q b goes y k = (there, back)
    where
      there : (k < n) × (P (b ∷ y) k ⊎ ((p : List ℕ) × (q : List ℕ) × (b ∷ y ≡ p ++ q) × P p (n + k))) → FindsBy n Q y k ⊎ ((k < n) × P [] (n + k))
      there (lt, inl a) = inl (lt, inl ((goes y k).0 a))
      there (lt, inr ([], q, e, a)) = inr (lt, a)
      there (lt, inr (x ∷ p, q, e, a)) =
          let same : x ≡ b = cc in
          let rest : y ≡ p ++ q = cc in
          inl (lt, inr (p, q, rest, (goes p (n + k)).0 (subst (λ u. P (u ∷ p) (n + k)) same a)))

      back : FindsBy n Q y k ⊎ ((k < n) × P [] (n + k)) → (k < n) × (P (b ∷ y) k ⊎ ((p : List ℕ) × (q : List ℕ) × (b ∷ y ≡ p ++ q) × P p (n + k)))
      back (inl (lt, inl a)) = (lt, inl ((goes y k).1 a))
      back (inl (lt, inr (p, q, e, a))) = (lt, inr (b ∷ p, q, ap (λ z. b ∷ z) e, (goes p (n + k)).1 a))
      back (inr (lt, a)) = (lt, inr ([], b ∷ y, refl, a))

  -- by a byte after which nothing is found
  pub at_dead : (b : ℕ) → ((y : List ℕ) (k : ℕ) → P (b ∷ y) k → ⊥) → (y : List ℕ) (k : ℕ) → FindsBy n P (b ∷ y) k ↔ ((k < n) × P [] (n + k))
  at_dead b dead y k = iff_trans (at_byte (λ z j. ⊥) b (λ z j. (dead z j, λ off. absurd off)) y k) (there, λ h. inr h)
    where
      there : FindsBy n (λ z j. ⊥) y k ⊎ ((k < n) × P [] (n + k)) → (k < n) × P [] (n + k)
      there (inl (lt, inl off)) = absurd off
      there (inl (lt, inr (p, q, e, off))) = absurd off
      there (inr h) = h

  -- by a byte, where no index is decided
  pub at_quiet : (Q : List ℕ → ℕ → Type 0) (b : ℕ) → ((y : List ℕ) (k : ℕ) → P (b ∷ y) k ↔ Q y k) → ((k : ℕ) → k < n → P [] (n + k) → ⊥) → (y : List ℕ) (k : ℕ) → FindsBy n Q y k ↔ FindsBy n P (b ∷ y) k
  at_quiet Q b goes quiet y k = (
    λ h. (at_byte Q b goes y k).1 (inl h),
    λ h. ⊎_elim {C = FindsBy n Q y k} (λ f. f) (λ (lt, a). absurd (quiet k lt a)) ((at_byte Q b goes y k).0 h),
  )

  -- the same by other facts
  pub finds_same : (Q : List ℕ → ℕ → Type 0) → ((y : List ℕ) (k : ℕ) → P y k ↔ Q y k) → (y : List ℕ) (k : ℕ) → FindsBy n P y k ↔ FindsBy n Q y k
  finds_same Q same y k = (there, back)
    where
      there : FindsBy n P y k → FindsBy n Q y k
      there (lt, inl a) = (lt, inl ((same y k).0 a))
      there (lt, inr (p, q, e, a)) = (lt, inr (p, q, e, (same p (n + k)).0 a))

      back : FindsBy n Q y k → FindsBy n P y k
      back (lt, inl a) = (lt, inl ((same y k).1 a))
      back (lt, inr (p, q, e, a)) = (lt, inr (p, q, e, (same p (n + k)).1 a))

  -- after a byte, with the indexes that are decided before it
  pub told_found : (Q : List ℕ → ℕ → Type 0) (b : ℕ) → ((y : List ℕ) (k : ℕ) → P (b ∷ y) k ↔ Q y k) → (y : List ℕ) (k : ℕ) (was now : Bool) (R : Type 0)
      → IsTrue now ↔ (((k < n) × P [] (n + k)) ⊎ IsTrue was) → (FindsBy n P (b ∷ y) k ⊎ IsTrue was) ↔ R → (FindsBy n Q y k ⊎ IsTrue now) ↔ R
  told_found Q b goes y k was now R told before = iff_trans (there, back) before
    where
      there : FindsBy n Q y k ⊎ IsTrue now → FindsBy n P (b ∷ y) k ⊎ IsTrue was
      there (inl h) = inl ((at_byte Q b goes y k).1 (inl h))
      there (inr h) = ⊎_elim {C = FindsBy n P (b ∷ y) k ⊎ IsTrue was} (λ t. inl ((at_byte Q b goes y k).1 (inr t))) (λ w. inr w) (told.0 h)

      back : FindsBy n P (b ∷ y) k ⊎ IsTrue was → FindsBy n Q y k ⊎ IsTrue now
      back (inl h) = ⊎_elim {C = FindsBy n Q y k ⊎ IsTrue now} (λ f. inl f) (λ m. inr (told.1 (inl m))) ((at_byte Q b goes y k).0 h)
      back (inr w) = inr (told.1 (inr w))

  -- what the ends of a row tell when it is left
  module _ (ends : ℕ → Bool) (ended : (k : ℕ) → k < n + n → IsTrue (ends k) ↔ P [] k) where
    told_is : (k : ℕ) → ToldBy n (λ i. IsTrue (ends i)) n k ↔ ((k < n) × P [] (n + k))
    told_is k = iff_trans (told_decided n (λ i. IsTrue (ends i)) k) (
      λ (lt, at). (lt, (ended (n + k) (omega (arith, lt))).0 at),
      λ (lt, a). (lt, (ended (n + k) (omega (arith, lt))).1 a),
    )

    -- after a byte
    pub next_found : (Q : List ℕ → ℕ → Type 0) (b : ℕ) → ((y : List ℕ) (k : ℕ) → P (b ∷ y) k ↔ Q y k) → (y : List ℕ) (k : ℕ) (was now : Bool) (R : Type 0)
        → IsTrue now ↔ (ToldBy n (λ i. IsTrue (ends i)) n k ⊎ IsTrue was) → (FindsBy n P (b ∷ y) k ⊎ IsTrue was) ↔ R → (FindsBy n Q y k ⊎ IsTrue now) ↔ R
    next_found Q b goes y k was now R told before = told_found Q b goes y k was now R (iff_trans told (iff_beside (told_is k))) before

    -- after a byte by which nothing is found
    pub dead_found : (b : ℕ) → ((y : List ℕ) (k : ℕ) → P (b ∷ y) k → ⊥) → (y : List ℕ) (k : ℕ) (was now : Bool) (R : Type 0)
        → IsTrue now ↔ (ToldBy n (λ i. IsTrue (ends i)) n k ⊎ IsTrue was) → (FindsBy n P (b ∷ y) k ⊎ IsTrue was) ↔ R → IsTrue now ↔ R
    dead_found b dead y k was now R told before = iff_trans (iff_trans told (iff_beside (iff_trans (told_is k) (iff_sym (at_dead b dead y k))))) before

  -- at the end of the text, by the indexes of ends
  pub last_told : (R : ℕ → Type 0) → ((k : ℕ) → k < n + n → R k ↔ P [] k) → (k : ℕ) → ToldBy n R 0 k ↔ FindsBy n P [] k
  last_told R ended k = iff_trans (told_same n R 0 k (P []) (λ j le lt. ended j lt)) (iff_trans (told_either n (P []) k) (iff_sym (at_no_byte k)))

  -- at the end of the text, where nothing is found
  pub none_last : ((k : ℕ) → k < n + n → P [] k → ⊥) → (k : ℕ) → FindsBy n P [] k → ⊥
  none_last none k h = let (lt, either) = (at_no_byte k).0 h in ⊎_elim {C = ⊥} (λ a. none k (omega arith) a) (λ a. none (n + k) (omega arith) a) either

  -- some index is found at the end of the text
  pub some_last : ((k : ℕ) × (k < n + n) × P [] k) ↔ ((k : ℕ) × FindsBy n P [] k)
  some_last = (
    λ (k, lt, a). ⊎_elim {C = (j : ℕ) × FindsBy n P [] j} (λ low. (k, (at_no_byte k).1 (low, inl a)))
        (λ high. let (j, is) = less n k high in (j, (at_no_byte j).1 (omega arith, inr (subst (P []) is a)))) (cases_lt k n),
    λ (k, h). let (lt, either) = (at_no_byte k).0 h in ⊎_elim {C = (j : ℕ) × (j < n + n) × P [] j} (λ a. (k, omega arith, a)) (λ a. (n + k, omega arith, a)) either,
  )
    where
      less : (i j : ℕ) → i ≤ j → (d : ℕ) × (j ≡ i + d)
      less i j le = (j - i, omega arith)

-- some index, by the same facts
pub some_same : {P Q : ℕ → Type 0} → ((k : ℕ) → P k ↔ Q k) → ((k : ℕ) × P k) ↔ ((k : ℕ) × Q k)
some_same same = (λ (k, p). (k, (same k).0 p), λ (k, q). (k, (same k).1 q))

-- what the automaton with early matches finds
pub found_is : (old m : NfaValue) → EndsAtEarlyMatches old m → (y : List ℕ) → AllBytes y → (k : ℕ) → FindsBy (half m) (IsReached m) y k ↔ IsReached old y k
found_is old m made y bytes k =
    let two = made.index_count in
    let is : old.index_count ≡ half m = omega arith in
    subst (λ n. FindsBy n (IsReached m) y k ↔ IsReached old y k) is (iff_sym (reached_by old m made k y bytes))

-- what is left after a run came to a byte, where each byte more costs at most so much
pub visits_left : (m at w old mid new total : ℕ) → 0 < w → mid ≤ old + at → new ≤ mid + w → old + (m + at + 1) * w ≤ total → new + m * w ≤ total
visits_left m at w old mid new total some read step le = let h = mul-le at 1 at w (omega arith) (omega (arith, some)) in omega (arith, h, read, step, le)

-- and after a part of it was stepped
pub visits_stepped : (rest at w old new total : ℕ) → old + (rest + at) * w ≤ total → new ≤ old + at * w → new + rest * w ≤ total
visits_stepped rest at w old new total before step = omega arith
