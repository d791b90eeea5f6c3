-- States from which some bytes lead to an end.
use Rattle.std.proofs.Common.{◌++◌, ◌≡◌, ℕ, ◌+◌, ◌<◌, ◌≤◌, inl, inr, Bool, false, true≢false, ◌||◌, List, [], ◌∷◌, Some, IsTrue, refl, sym, ◌∙◌, ap, subst, arith, ne_eqb, eq-eqb}
use Rattle.std.specs.Prelude.{◌↔◌, ◌==◌}
use Rattle.std.proofs.lemmas.Bool.{cases_lt}
use Rattle.std.proofs.Math.Logic.{⊎_elim}
use Rattle.byte_nfa.specs.Live.{IsLive}
use Rattle.byte_nfa.specs.Steps.{State, state, Accepts}
use Rattle.bit_sets.specs.Texts.{AllBytes}
use Rattle.byte_nfa.specs.inner.Pass.{goes_next, LeadsBy}
use Rattle.byte_nfa.specs.inner.Views.{GoesBelow}
use Rattle.bit_sets.specs.declared.byte_set.ByteSet.{ByteSet}
use Rattle.byte_nfa.proofs.lemmas.Pass.{Step, step_there, step_back, goes_below_later, and_both, and_first, and_second}
use Rattle.std.proofs.lemmas.Bool.{eqb-true}
use Rattle.bit_sets.specs.Bytes.{has_byte}
use Rattle.byte_nfa.specs.Steps.{bytes_state, union_state, loop_state, match_state}

-- a byte leads to a lower state, or stays
lower_or_same : (s c t : ℕ) (st : State) → GoesBelow s st → IsTrue (goes_next st s (Some c) t) → t < s + 1
lower_or_same s c t (bytes_state w u) below go = let same : t ≡ u = eqb-true t u (and_second (has_byte w c) (t == u) go) in omega (arith, below)
lower_or_same s c t (union_state us) below go = absurd (true≢false (sym go))
lower_or_same s c t (loop_state w us) below go = let same : t ≡ s = eqb-true t s (and_second (has_byte w c) (t == s) go) in omega arith
lower_or_same s c t (match_state j) below go = absurd (true≢false (sym go))

-- a byte after a text, and what follows
pub after_byte : (text rest : List ℕ) (b : ℕ) → (text ++ b ∷ []) ++ rest ≡ text ++ b ∷ rest
after_byte [] rest b = refl
after_byte (x ∷ xs) rest b = ap (λ l. x ∷ l) (after_byte xs rest b)

-- a state that reads leads on by each of its bytes, if the next state is in the set
pub reads_lead : {Some : Type 0} (w : ByteSet) (u s : ℕ) (live : ℕ → Bool) → IsTrue (live u) → u < s → Some ↔ ((c : ℕ) × (c < 256) × IsTrue (has_byte w c))
    → Some ↔ LeadsBy (bytes_state w u) s live
reads_lead w u s live at lt some = (
  λ h. let (c, byte, has) = some.0 h in inr (c, u, byte, lt, and_both (has_byte w c) (u == u) has (eq-eqb u u refl), at),
  λ h. some.1 (there h),
)
  where
    there : LeadsBy (bytes_state w u) s live → (c : ℕ) × (c < 256) × IsTrue (has_byte w c)
    there (inl (inl (k, is))) = absurd (true≢false (sym is))
    there (inl (inr (t, go, h))) = absurd (true≢false (sym go))
    there (inr (c, t, byte, below, go, h)) = (c, byte, and_first (has_byte w c) (t == u) go)

module _ (a : List State) where
  pub leads_by : (s : ℕ) (live : ℕ → Bool) → GoesBelow s (state a s) → ((u : ℕ) → u < s → IsTrue (live u) ↔ IsLive a u) → LeadsBy (state a s) s live ↔ IsLive a s
  leads_by s live below low = (there, λ (k, y, bytes, h). back k y bytes h)
    where
      there : LeadsBy (state a s) s live → IsLive a s
      there (inl (inl (k, is))) = (k, [], tt, step_back a s k [] (state a s) refl (inr (inr (refl, is))))
      there (inl (inr (t, go, at))) =
          let (k, y, bytes, h) = (low t (goes_below_later s (state a s) below t go)).0 at in
          (k, y, bytes, step_back a s k y (state a s) refl (inl (t, go, h)))
      there (inr (c, t, byte, lt, go, at)) =
          let (k, y, bytes, h) = (low t lt).0 at in
          (k, c ∷ y, (byte, bytes), step_back a s k (c ∷ y) (state a s) refl (inr (inl (c, y, t, refl, go, h))))

      step_of : (k : ℕ) (y : List ℕ) → AllBytes y → Step a s y k (state a s) → ((c : ℕ) (z : List ℕ) → y ≡ c ∷ z → AllBytes z → Accepts a k s z → LeadsBy (state a s) s live) → LeadsBy (state a s) s live
      step_of k y bytes (inl (t, go, h)) again = inl (inr (t, go, (low t (goes_below_later s (state a s) below t go)).1 (k, y, bytes, h)))
      step_of k y bytes (inr (inl (c, z, t, cut, go, h))) again =
          let (byte, left) : AllBytes (c ∷ z) = subst AllBytes cut bytes in
          ⊎_elim {C = LeadsBy (state a s) s live}
          (λ lt. inr (c, t, byte, lt, go, (low t lt).1 (k, z, left, h)))
          (λ past. let le = lower_or_same s c t (state a s) below go in let same : t ≡ s = omega arith in again c z cut left (subst (λ v. Accepts a k v z) same h))
          (cases_lt t s)
      step_of k y bytes (inr (inr (nil, is))) again = inl (inl (k, is))

      back : (k : ℕ) (y : List ℕ) → AllBytes y → Accepts a k s y → LeadsBy (state a s) s live
      back k [] bytes h = step_of k [] bytes (step_there a s k [] h) (λ c z cut left rest. absurd cc)
      back k (x ∷ y) bytes h = step_of k (x ∷ y) bytes (step_there a s k (x ∷ y) h)
          (λ c z cut left rest. let same : y ≡ z = cc in back k y bytes.1 (subst (λ v. Accepts a k s v) (sym same) rest))

  -- the states below s are in the set exactly if they are live, and no others are in it
  pub record AreLiveTo (s : ℕ) (live : ℕ → Bool) : Type 0 where
    pub low : (u : ℕ) → u < s → IsTrue (live u) ↔ IsLive a u
    pub high : (u : ℕ) → s ≤ u → live u ≡ false

  -- the state s is put in
  pub live_put : (s : ℕ) (old new : ℕ → Bool) → AreLiveTo s old → GoesBelow s (state a s) → LeadsBy (state a s) s old → ((u : ℕ) → new u ≡ ((u == s) || old u)) → AreLiveTo (s + 1) new
  live_put s old new are below leads has = record {
    low = λ u lt. ⊎_elim {C = IsTrue (new u) ↔ IsLive a u}
        (λ before. subst (λ b. IsTrue b ↔ IsLive a u) (sym (other u (omega arith))) (are.low u before))
        (λ past. let is : u ≡ s = omega arith in subst (λ v. IsTrue (new v) ↔ IsLive a v) (sym is)
        (λ _. (leads_by s old below are.low).0 leads, λ _. has s ∙ ap (λ b. b || old s) (eq-eqb s s refl)))
        (cases_lt u s);
    high = λ u le. other u (omega arith) ∙ are.high u (omega arith);
  }
    where
      other : (u : ℕ) → (u ≡ s → ⊥) → new u ≡ old u
      other u ne = has u ∙ ap (λ b. b || old u) (ne_eqb u s ne)

  -- the state s is not put in
  pub live_passed : (s : ℕ) (old : ℕ → Bool) → AreLiveTo s old → GoesBelow s (state a s) → (LeadsBy (state a s) s old → ⊥) → AreLiveTo (s + 1) old
  live_passed s old are below none = record {
    low = λ u lt. ⊎_elim {C = IsTrue (old u) ↔ IsLive a u}
        (λ before. are.low u before)
        (λ past. let is : u ≡ s = omega arith in subst (λ v. IsTrue (old v) ↔ IsLive a v) (sym is)
        (λ at. absurd (true≢false (sym at ∙ are.high s (omega arith))), λ h. absurd (none ((leads_by s old below are.low).1 h))))
        (cases_lt u s);
    high = λ u le. are.high u (omega arith);
  }
