-- Passes over a set of states.
use Rattle.std.proofs.Common.{◌≡◌, ℕ, ◌+◌, ◌-◌, ◌<◌, ◌≤◌, ◌⊎◌, inl, inr, Bool, true, false, List, [], ◌∷◌, ◌++◌, IsTrue, Some, None, true≢false, refl, sym, subst, ◌∙◌, arith, min, length-append}
use Rattle.std.specs.Prelude.{◌↔◌, ◌||◌, ◌&&◌, ◌==◌, Option, MatchOption, is_some}
use Rattle.std.proofs.Math.Logic.{⊎_elim}
use Rattle.bit_sets.specs.Bytes.{has_byte}
use Rattle.bit_sets.specs.Numbers.{has_number}
use Rattle.bit_sets.specs.StateSets.{has_state}
use Rattle.bit_sets.specs.declared.state_set.StateSet.{StateSet}
use Rattle.byte_nfa.specs.EarlyMatches.{EndsAtEarlyMatches, half}
use Rattle.byte_nfa.specs.Runs.{size, AcceptsFrom}
use Rattle.byte_nfa.specs.Steps.{NfaValue, State, bytes_state, union_state, loop_state, match_state, state}
use Rattle.byte_nfa.specs.inner.Views.{GoesBelow}
use Rattle.byte_nfa.specs.inner.Pass.{goes_now, goes_next, names, AcceptsNow}
use Rattle.byte_nfa.proofs.lemmas.Pass.{iff_trans, none_swept, some_found, read_taken, stays_at_end, next_position, iff_sym}
use Rattle.byte_nfa.proofs.lemmas.After.{index_below}
use Rattle.byte_nfa.specs.inner.Stepping.{AreCounted, EndsBelow, StepsBelow, HasEndFrom}

or_off : (p : Bool) → p ≡ (p || false)
or_off true = refl
or_off false = refl

-- the other of two facts is replaced
iff_other : {P Q R : Type 0} → (Q ↔ R) → (P ⊎ Q) ↔ (P ⊎ R)
iff_other {P = P} {Q = Q} {R = R} f = (⊎_elim {C = P ⊎ R} (λ p. inl p) (λ q. inr (f.0 q)), ⊎_elim {C = P ⊎ Q} (λ p. inl p) (λ r. inr (f.1 r)))

pub no_end_is : (o : Option ℕ) → is_some o ≡ false → o ≡ None
no_end_is None off = refl
no_end_is (Some i) off = absurd (true≢false off)

-- where there is no end, none is added
pub no_end_more : (P : Type 0) (o : Option ℕ) (i : ℕ) → o ≡ None → (P ⊎ (o ≡ Some i)) ↔ P
no_end_more P o i none = (⊎_elim {C = P} (λ p. p) (λ is. absurd cc), λ p. inl p)

-- ends below the limit, where no state that is left is in the set
pub ends_passed : (a : List State) (limit i : ℕ) (now : ℕ → Bool) → ((t : ℕ) → t < limit → now t ≡ false) → AcceptsNow a now limit [] i ↔ AcceptsNow a now 0 [] i
ends_passed a limit i now none = (λ (t, lt, at, h). absurd (true≢false (sym at ∙ none t lt)), λ (t, lt, at, h). absurd (omega arith))

module _ (a : List State) (s limit i : ℕ) (now : ℕ → Bool) (below : s < limit) (between : (t : ℕ) → s < t → t < limit → now t ≡ false) where
  -- and where a state is taken
  pub end_taken : (now' : ℕ → Bool) (E : Type 0) → now s ≡ true → GoesBelow s (state a s) → ((t : ℕ) → now' t ≡ (goes_now (state a s) t || now t))
      → IsTrue (names (state a s) None i) ↔ E → AcceptsNow a now limit [] i ↔ (AcceptsNow a now' s [] i ⊎ E)
  end_taken now' E marked order is_now is_end =
      let none : ℕ → Bool = λ _. false in
      let named = names (state a s) None in
      iff_trans (iff_sym (none_swept a limit now none none [] i (λ t lt. refl) (λ t. refl)))
      (iff_trans (read_taken a s limit i [] now none none now' none named below between marked order is_now (λ t. stays_at_end (state a s) s t) (λ t. or_off (named t)))
      (iff_trans (iff_sym (some_found a s now' none named i (λ t. refl))) (iff_other is_end)))

-- before a pass, and after it
pub step_begun : (m : NfaValue) (from to : StateSet) (b : ℕ) (y : List ℕ) (k : ℕ) → ((t : ℕ) → has_state to t ≡ false) → AcceptsFrom m from (b ∷ y) k ↔ StepsBelow m from (size m) to b y k
step_begun m from to b y k none = iff_sym (none_swept m.states (size m) (has_state from) (has_state to) (λ _. false) (b ∷ y) k (λ t lt. none t) (λ t. refl))

pub step_done : (m : NfaValue) (from to : StateSet) (limit b : ℕ) (y : List ℕ) (k : ℕ) → limit ≡ 0 → StepsBelow m from limit to b y k ↔ AcceptsFrom m to y k
step_done m from to limit b y k past = rw past (next_position m.states (has_state from) (has_state to) (λ _. false) b y k)

pub none_below : (a : List State) (now : ℕ → Bool) (limit : ℕ) (y : List ℕ) (k : ℕ) → limit ≡ 0 → AcceptsNow a now limit y k → ⊥
none_below a now limit y k past (t, lt, at, h) = omega (arith, lt, past)

-- a pass comes to an end if there is one
pub has_end_is : (m : NfaValue) (from from' : StateSet) (limit' lowest : ℕ) (o : Option ℕ) → ((i : ℕ) → lowest ≤ i → EndsBelow m from (size m) i ↔ (EndsBelow m from' limit' i ⊎ (o ≡ Some i)))
    → MatchOption o (limit' ≡ 0) (λ i. (limit' < size m) × (lowest ≤ i) × (i < m.index_count)) → IsTrue (is_some o) ↔ HasEndFrom m from lowest
has_end_is m from from' limit' lowest None ends past =
    (λ off. absurd (true≢false (sym off)), λ (i, le, h). absurd (⊎_elim {C = ⊥} (λ low. none_below m.states (has_state from') limit' [] i past low) (λ is. cc) ((ends i le).0 h)))
has_end_is m from from' limit' lowest (Some i) ends (lt, le, small) = (λ _. (i, le, (ends i le).1 (inr refl)), λ _. refl)

-- ends from half on decide
pub decides_some : (source m : NfaValue) → EndsAtEarlyMatches source m → (set : StateSet) → HasEndFrom m set (half m) → (k : ℕ) × (k < half m) × AcceptsFrom m set [] (half m + k)
decides_some source m early set (i, le, (t, lt, at, a)) =
    let small = index_below source m early i t [] a in
    let same : i ≡ half m + (i - half m) = omega (arith, le) in
    (i - half m, omega (arith, small, le), subst (AcceptsFrom m set []) same (t, lt, at, a))

pub none_decided : (m : NfaValue) (set : StateSet) → (HasEndFrom m set (half m) → ⊥) → (k : ℕ) → k < half m → AcceptsFrom m set [] (half m + k) → ⊥
none_decided m set none k low a = none (half m + k, omega arith, a)

-- no state is left
pub dead_step : (m : NfaValue) (from to : StateSet) (b : ℕ) → ((y : List ℕ) (k : ℕ) → AcceptsFrom m from (b ∷ y) k ↔ AcceptsFrom m to y k) → ((t : ℕ) → has_state to t ≡ false) → (y : List ℕ) (k : ℕ) → AcceptsFrom m from (b ∷ y) k → ⊥
dead_step m from to b steps none y k h = let (t, within, at, leads) = (steps y k).0 h in true≢false (sym at ∙ none t)

-- two sets are swapped, each with as much room as before
pub room_swapped : (x y a b m : ℕ) → x ≡ b → y ≡ a → min a b ≡ m → min x y ≡ m
room_swapped x y a b m first second same = omega arith

-- some index, of those below twice n
pub below_all : (n : ℕ) (P : List ℕ → ℕ → Type 0) → ((k : ℕ) → P [] k → k < n + n) → ((i : ℕ) × (0 ≤ i) × P [] i) ↔ ((k : ℕ) × (k < n + n) × P [] k)
below_all n P below = (λ (k, le, h). (k, below k h, h), λ (k, low, h). (k, omega arith, h))

-- what is counted: one state's step more, and one count after another
in_more : (p q r s t : Bool) → (IsTrue p → IsTrue q) → IsTrue (p || r) → (IsTrue r → IsTrue (s || t)) → IsTrue ((q || s) || t)
in_more p true r s t up h f = refl
in_more true false r s t up h f = absurd (true≢false (sym (up refl)))
in_more false false r s t up h f = f h

both_hold : (p q : Bool) → IsTrue (p && q) → IsTrue q
both_hold true q h = h
both_hold false q h = absurd (true≢false (sym h))

one_next : (st : State) (s : ℕ) (o : Option ℕ) → (u : ℕ) × ((t : ℕ) → IsTrue (goes_next st s o t) → IsTrue (t == u))
one_next (bytes_state w u) s None = (u, λ t h. absurd (true≢false (sym h)))
one_next (bytes_state w u) s (Some c) = (u, λ t h. both_hold (has_byte w c) (t == u) h)
one_next (union_state us) s o = (s, λ t h. absurd (true≢false (sym h)))
one_next (loop_state w us) s None = (s, λ t h. absurd (true≢false (sym h)))
one_next (loop_state w us) s (Some c) = (s, λ t h. both_hold (has_byte w c) (t == s) h)
one_next (match_state k) s o = (s, λ t h. absurd (true≢false (sym h)))

pub counted_taken : (st : State) (s : ℕ) (o : Option ℕ) (old now new : ℕ → Bool) (a b c : ℕ) → AreCounted old now a b → b < c → ((t : ℕ) → new t ≡ (goes_next st s o t || now t)) → AreCounted old new a c
counted_taken st s o old now new a b c (added, le, counted) more taken =
    let (u, only) = one_next st s o in
    (u ∷ added, omega (arith, le, more), λ t h. in_more (goes_next st s o t) (t == u) (now t) (has_number t added) (old t) (only t) (sym (taken t) ∙ h) (counted t))

joined : (t : ℕ) (xs ys : List ℕ) → has_number t (xs ++ ys) ≡ (has_number t xs || has_number t ys)
joined t [] ys = refl
joined t (x ∷ xs) ys = rw (joined t xs ys) (or_grouped (t == x) (has_number t xs) (has_number t ys))
  where
    or_grouped : (p q r : Bool) → (p || (q || r)) ≡ ((p || q) || r)
    or_grouped true q r = refl
    or_grouped false q r = refl

pub counted_then : (old now new : ℕ → Bool) (a b c : ℕ) → AreCounted old now a b → AreCounted now new b c → AreCounted old new a c
counted_then old now new a b c (xs, le, first) (ys, le', second) =
    (ys ++ xs, omega (arith, le, le', length-append ys xs), λ t h. rw (joined t ys xs) (in_more (has_number t ys) (has_number t ys) (now t) (has_number t xs) (old t) (λ h. h) (second t h) (first t)))

in_listed_too : (p q : Bool) → IsTrue (p || false) → IsTrue (p || q)
in_listed_too true q h = refl
in_listed_too false q h = absurd (true≢false (sym h))

pub counted_anew : (old now new : ℕ → Bool) (a b c : ℕ) → AreCounted old now a b → AreCounted (λ _. false) new b c → AreCounted old new a c
counted_anew old now new a b c (xs, le, first) (ys, le', second) = (ys, omega (arith, le, le'), λ t h. in_listed_too (has_number t ys) (old t) (second t h))
