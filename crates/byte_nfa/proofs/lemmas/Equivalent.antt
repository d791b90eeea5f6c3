-- Bytes that states read alike lead to the same ends.
use Rattle.std.proofs.Common.{◌≡◌, ℕ, zero, suc, length, [], ◌+◌, ◌<◌, Bool, true, false, true≢false, ◌||◌, List, ◌∷◌, IsTrue, arith, refl, ap, sym, subst, ◌∙◌, below_more}
use Rattle.std.specs.Prelude.{◌↔◌, IsFalse}
use Rattle.bit_sets.specs.declared.byte_set.ByteSet.{ByteSet}
use Rattle.bit_sets.specs.Bytes.{has_byte, differ, set_at}
use Rattle.byte_nfa.specs.Steps.{State, bytes_state, loop_state, state, Accepts, ends, by_byte, by_skip, by_out, by_stay}
use Rattle.byte_nfa.specs.Equivalent.{reads_byte, AreEquivalent}
use Rattle.byte_nfa.specs.inner.Views.{of_state, of_states, IsHeld, AreHeld}
use Rattle.byte_nfa.specs.declared.state.State as declared
use Rattle.byte_nfa.specs.declared.state.State.TheVariants.{Bytes, Union, Loop, Match}
use Rattle.byte_nfa.proofs.lemmas.Pass.{or_none}

-- one state more: those so far read both bytes or neither exactly if the test fails
pub equivalent_more : (f g : ℕ → Bool) (i : ℕ) (old new : Bool) → new ≡ (differ (f i) (g i) || old) → IsFalse old ↔ ((s : ℕ) → s < i → f s ≡ g s)
    → IsFalse new ↔ ((s : ℕ) → s < i + 1 → f s ≡ g s)
equivalent_more f g i old new is before = (
  λ none. below_more _ _ (before.0 (or_second_none (differ (f i) (g i)) old (sym is ∙ none))) (same (f i) (g i) (or_first_none (differ (f i) (g i)) old (sym is ∙ none))),
  λ each. is ∙ or_none (differ (f i) (g i)) old (none_differ (f i) (g i) (each i (omega arith))) (before.1 (λ s lt. each s (omega arith))),
)
  where
    same : (p q : Bool) → differ p q ≡ false → p ≡ q
    same true true h = refl
    same true false h = absurd (true≢false h)
    same false true h = absurd (true≢false h)
    same false false h = refl

    none_differ : (p q : Bool) → p ≡ q → differ p q ≡ false
    none_differ true true h = refl
    none_differ true false h = absurd (true≢false h)
    none_differ false true h = absurd (true≢false (sym h))
    none_differ false false h = refl

    or_first_none : (p q : Bool) → (p || q) ≡ false → p ≡ false
    or_first_none true q h = absurd (true≢false h)
    or_first_none false q h = refl

    or_second_none : (p q : Bool) → (p || q) ≡ false → q ≡ false
    or_second_none true q h = absurd (true≢false h)
    or_second_none false q h = h

module _ (a : List State) (k b c : ℕ) (z : List ℕ) (equivalent : AreEquivalent a b c) where
  has_equivalent : (s : ℕ) (st : State) (w : ByteSet) → state a s ≡ st → ((d : ℕ) → reads_byte st d ≡ has_byte w d) → IsTrue (has_byte w b) → IsTrue (has_byte w c)
  has_equivalent s st w e f h = sym (f c) ∙ sym (ap (λ u. reads_byte u c) e) ∙ sym (equivalent s) ∙ ap (λ u. reads_byte u b) e ∙ f b ∙ h

  pub accepts_equivalent : (s : ℕ) (y : List ℕ) → Accepts a k s y → y ≡ b ∷ z → Accepts a k s (c ∷ z)
  accepts_equivalent s y (ends s' e) is = absurd cc
  accepts_equivalent s y (by_byte s' t d x w e has rest) is =
      let same : d ≡ b = cc in let others : x ≡ z = cc in
      by_byte s' t c z w e (has_equivalent s' (bytes_state w t) w e (λ u. refl) (subst (λ u. IsTrue (has_byte w u)) same has)) (subst (Accepts a k t) others rest)
  accepts_equivalent s y (by_skip s' t x ts e m rest) is = by_skip s' t (c ∷ z) ts e m (accepts_equivalent t x rest is)
  accepts_equivalent s y (by_out s' t x w ts e m rest) is = by_out s' t (c ∷ z) w ts e m (accepts_equivalent t x rest is)
  accepts_equivalent s y (by_stay s' d x w ts e has rest) is =
      let same : d ≡ b = cc in let others : x ≡ z = cc in
      by_stay s' c z w ts e (has_equivalent s' (loop_state w ts) w e (λ u. refl) (subst (λ u. IsTrue (has_byte w u)) same has)) (subst (Accepts a k s') others rest)

-- where each set has both bytes or neither, each state reads both or neither

module _ (sets : List ByteSet) (targets : List ℕ) (a b : ℕ) (alike : (n : ℕ) → n < length sets → has_byte (set_at sets n) a ≡ has_byte (set_at sets n) b) where
  alike_state : (x : declared.State) → IsHeld sets targets x → reads_byte (of_state sets targets x) a ≡ reads_byte (of_state sets targets x) b
  alike_state (Bytes n t) held = alike n held
  alike_state (Union at) held = refl
  alike_state (Loop n t) held = alike n held
  alike_state (Match k) held = refl

  pub alike_states : (xs : List declared.State) → AreHeld sets targets xs → AreEquivalent (of_states sets targets xs) a b
  alike_states [] held s = refl
  alike_states (x ∷ xs) held zero = alike_state x held.0
  alike_states (x ∷ xs) held (suc s) = alike_states xs held.1 s
