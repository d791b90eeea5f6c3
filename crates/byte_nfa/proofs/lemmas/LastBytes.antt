-- The last bytes of texts that lead to an end.
use Rattle.std.proofs.Common.{◌≡◌, ℕ, ◌<◌, Bool, List, [], ◌∷◌, ◌++◌, Some, length, IsTrue, refl, subst}
use Rattle.std.specs.Prelude.{◌==◌}
use Rattle.std.proofs.lemmas.Bool.{eq-eqb}
use Rattle.bit_sets.specs.Bytes.{has_byte}
use Rattle.byte_nfa.specs.Steps.{State, state, Accepts, ends, by_byte, by_skip, by_out, by_stay}
use Rattle.bit_sets.specs.declared.byte_set.ByteSet.{ByteSet}
use Rattle.byte_nfa.specs.inner.Pass.{goes_next}
use Rattle.byte_nfa.proofs.lemmas.Pass.{and_both, accepts_within}

module _ (a : List State) (accepting : ℕ → Bool) (set : ByteSet) (all : (t k : ℕ) → Accepts a k t [] → IsTrue (accepting t))
    (last : (s c t : ℕ) → s < length a → IsTrue (goes_next (state a s) s (Some c) t) → IsTrue (accepting t) → IsTrue (has_byte set c)) where
  -- the byte is the last one, or an earlier one
  after_byte : (k s c t b : ℕ) (z y : List ℕ) → s < length a → IsTrue (goes_next (state a s) s (Some c) t) → Accepts a k t z → c ∷ z ≡ y ++ b ∷ []
      → ((w : List ℕ) → z ≡ w ++ b ∷ [] → IsTrue (has_byte set b)) → IsTrue (has_byte set b)
  after_byte k s c t b z [] lt go h cut later =
      let byte : c ≡ b = cc in
      let none : z ≡ [] = cc in
      subst (λ d. IsTrue (has_byte set d)) byte (last s c t lt go (all t k (subst (Accepts a k t) none h)))
  after_byte k s c t b z (x ∷ w) lt go h cut later = later w cc

  pub last_byte : (k s b : ℕ) (z y : List ℕ) → z ≡ y ++ b ∷ [] → Accepts a k s z → IsTrue (has_byte set b)
  last_byte k s b z [] cut (ends s' e) = absurd cc
  last_byte k s b z (x ∷ y) cut (ends s' e) = absurd cc
  last_byte k s b z y cut (by_byte s' t c u w e has rest) =
      after_byte k s c t b u y (accepts_within a k s (c ∷ u) (by_byte s t c u w e has rest)) (rw e (and_both (has_byte w c) (t == t) has (eq-eqb t t refl))) rest cut (λ v is. last_byte k t b u v is rest)
  last_byte k s b z y cut (by_skip s' t u ts e m rest) = last_byte k t b z y cut rest
  last_byte k s b z y cut (by_out s' t u w ts e m rest) = last_byte k t b z y cut rest
  last_byte k s b z y cut (by_stay s' c u w ts e has rest) =
      after_byte k s c s b u y (accepts_within a k s (c ∷ u) (by_stay s c u w ts e has rest)) (rw e (and_both (has_byte w c) (s == s) has (eq-eqb s s refl))) rest cut (λ v is. last_byte k s b u v is rest)
