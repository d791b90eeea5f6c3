-- One pass over the states at one position of a text keeps what the set accepts.
use Rattle.std.proofs.Common.{◌≡◌, ℕ, suc, ◌+◌, ◌<◌, ◌⊎◌, inl, inr, Bool, true, false, true≢false, ◌||◌, ◌&&◌, List, [], ◌∷◌, Some, None, length, IsTrue, refl, ap, sym, ◌∙◌, subst, arith}
use Rattle.std.specs.Prelude.{◌↔◌, ◌==◌, Option, MatchOption, is_some}
use Rattle.std.proofs.lemmas.Bool.{eqb-true, eq-eqb, or_cases, cases_lt}
pub use Rattle.std.proofs.lemmas.Bool.{or_left as or_first, or_right as or_second, or_from as or_none, and_from as and_both}
use Rattle.std.proofs.lemmas.List.{get_or_past}
use Rattle.std.proofs.Math.Logic.{⊎_elim}
use Rattle.bit_sets.specs.Bytes.{has_byte}
use Rattle.byte_nfa.specs.Steps.{State, bytes_state, union_state, loop_state, match_state, state, HasNumber, Accepts, ends, by_byte, by_skip, by_out, by_stay}
use Rattle.bit_sets.specs.Numbers.{AreBelow, has_number}
use Rattle.byte_nfa.specs.inner.Views.{GoesBelow}
use Rattle.byte_nfa.specs.inner.Pass.{head, goes_now, goes_next, names, AcceptsNow, AcceptsLater, Found, PassInvariant}

-- truth values

pub iff_trans : {P Q R : Type 0} → P ↔ Q → Q ↔ R → P ↔ R
iff_trans f g = (λ p. g.0 (f.0 p), λ r. f.1 (g.1 r))

pub iff_sym : {P Q : Type 0} → (P ↔ Q) → Q ↔ P
iff_sym f = (f.1, f.0)

pub and_first : (p q : Bool) → (p && q) ≡ true → p ≡ true
and_first true q h = refl
and_first false q h = absurd (true≢false (sym h))

pub and_second : (p q : Bool) → (p && q) ≡ true → q ≡ true
and_second true q h = h
and_second false q h = absurd (true≢false (sym h))

-- lists of states

pub listed_in : (t : ℕ) (us : List ℕ) → has_number t us ≡ true → HasNumber t us
listed_in t [] e = absurd (true≢false (sym e))
listed_in t (x ∷ xs) e = ⊎_elim {C = HasNumber t (x ∷ xs)} (λ h. inl (eqb-true t x h)) (λ h. inr (listed_in t xs h)) (or_cases (t == x) (has_number t xs) e)

pub in_listed : (t : ℕ) (us : List ℕ) → HasNumber t us → has_number t us ≡ true
in_listed t [] h = absurd h
in_listed t (x ∷ xs) (inl e) = or_first (t == x) (has_number t xs) (eq-eqb t x e)
in_listed t (x ∷ xs) (inr h) = or_second (t == x) (has_number t xs) (in_listed t xs h)

module _ (a : List State) where
  abbrev pub Step : ℕ → List ℕ → ℕ → State → Type 0
  Step s y k st = ((t : ℕ) × IsTrue (goes_now st t) × Accepts a k t y)
      ⊎ (((c : ℕ) × (z : List ℕ) × (t : ℕ) × (y ≡ c ∷ z) × IsTrue (goes_next st s (Some c) t) × Accepts a k t z) ⊎ ((y ≡ []) × IsTrue (names st None k)))

  -- what a state accepts, by its next step
  pub step_there : (s k : ℕ) (y : List ℕ) → Accepts a k s y → Step s y k (state a s)
  step_there s k y (ends s' e) = rw e (inr (inr (refl, eq-eqb k k refl)))
  step_there s k y (by_byte s' t c z w e has rest) = rw e (inr (inl (c, z, t, refl, and_both (has_byte w c) (t == t) has (eq-eqb t t refl), rest)))
  step_there s k y (by_skip s' t z ts e m rest) = rw e (inl (t, in_listed t ts m, rest))
  step_there s k y (by_out s' t z w ts e m rest) = rw e (inl (t, in_listed t ts m, rest))
  step_there s k y (by_stay s' c z w ts e has rest) = rw e (inr (inl (c, z, s, refl, and_both (has_byte w c) (s == s) has (eq-eqb s s refl), rest)))

  pub step_back : (s k : ℕ) (y : List ℕ) (st : State) → state a s ≡ st → Step s y k st → Accepts a k s y
  step_back s k y (bytes_state w u) e (inl h) = absurd (true≢false (sym h.1))
  step_back s k y (bytes_state w u) e (inr (inl (c, z, t, cut, go, rest))) =
      let same : t ≡ u = eqb-true t u (and_second (has_byte w c) (t == u) go) in
      subst (Accepts a k s) (sym cut) (by_byte s u c z w e (and_first (has_byte w c) (t == u) go) (subst (λ x. Accepts a k x z) same rest))
  step_back s k y (bytes_state w u) e (inr (inr h)) = absurd (true≢false (sym h.1))
  step_back s k y (union_state us) e (inl (t, m, rest)) = by_skip s t y us e (listed_in t us m) rest
  step_back s k y (union_state us) e (inr (inl (c, z, t, cut, go, rest))) = absurd (true≢false (sym go))
  step_back s k y (union_state us) e (inr (inr h)) = absurd (true≢false (sym h.1))
  step_back s k y (loop_state w us) e (inl (t, m, rest)) = by_out s t y w us e (listed_in t us m) rest
  step_back s k y (loop_state w us) e (inr (inl (c, z, t, cut, go, rest))) =
      let same : t ≡ s = eqb-true t s (and_second (has_byte w c) (t == s) go) in
      subst (Accepts a k s) (sym cut) (by_stay s c z w us e (and_first (has_byte w c) (t == s) go) (subst (λ x. Accepts a k x z) same rest))
  step_back s k y (loop_state w us) e (inr (inr h)) = absurd (true≢false (sym h.1))
  step_back s k y (match_state j) e (inl h) = absurd (true≢false (sym h.1))
  step_back s k y (match_state j) e (inr (inl (c, z, t, cut, go, rest))) = absurd (true≢false (sym go))
  step_back s k y (match_state j) e (inr (inr (nil, is))) = subst (Accepts a k s) (sym nil) (ends s (e ∙ ap match_state (sym (eqb-true k j is))))

  -- a state that accepts a text is there
  pub accepts_within : (k s : ℕ) (y : List ℕ) → Accepts a k s y → s < length a
  accepts_within k s y h = ⊎_elim {C = s < length a} (λ lt. lt) (λ past. absurd (nowhere (get_or_past a s (union_state []) past) (step_there s k y h))) (cases_lt s (length a))
    where
      nowhere : state a s ≡ union_state [] → Step s y k (state a s) → ⊥
      nowhere e step = none (subst (Step s y k) e step)
        where
          none : Step s y k (union_state []) → ⊥
          none (inl (t, m, rest)) = true≢false (sym m)
          none (inr (inl (c, z, t, cut, go, rest))) = true≢false (sym go)
          none (inr (inr (nil, is))) = true≢false (sym is)

  module _ (s k : ℕ) (y : List ℕ) (now next found now' next' found' : ℕ → Bool) where
    -- a state that is marked gives its steps
    pub taken : now s ≡ true → ((t : ℕ) → IsTrue (goes_now (state a s) t) → t < s)
        → ((t : ℕ) → now' t ≡ (goes_now (state a s) t || now t))
        → ((t : ℕ) → next' t ≡ (goes_next (state a s) s (head y) t || next t))
        → ((t : ℕ) → found' t ≡ (names (state a s) (head y) t || found t))
        → PassInvariant a now (s + 1) next found y k ↔ PassInvariant a now' s next' found' y k
    taken marked order is_now is_next is_found = (there, back)
      where
        stepped : Step s y k (state a s) → PassInvariant a now' s next' found' y k
        stepped (inl (t, go, h)) = inl (t, (let lt = order t go in omega arith), is_now t ∙ or_first (goes_now (state a s) t) (now t) go, h)
        stepped (inr (inl (c, z, t, cut, go, h))) =
            let go' : goes_next (state a s) s (head y) t ≡ true = subst (λ l. goes_next (state a s) s (head l) t ≡ true) (sym cut) go in
            inr (inl (c, z, t, cut, accepts_within k t z h, is_next t ∙ or_first (goes_next (state a s) s (head y) t) (next t) go', h))
        stepped (inr (inr (nil, go))) =
            let go' : names (state a s) (head y) k ≡ true = subst (λ l. names (state a s) (head l) k ≡ true) (sym nil) go in
            inr (inr (nil, is_found k ∙ or_first (names (state a s) (head y) k) (found k) go'))

        there : PassInvariant a now (s + 1) next found y k → PassInvariant a now' s next' found' y k
        there (inl (t, lt, at, h)) = ⊎_elim {C = PassInvariant a now' s next' found' y k}
            (λ past. inl (t, omega arith, is_now t ∙ or_second (goes_now (state a s) t) (now t) at, h))
            (λ here. let same : t ≡ s = omega arith in stepped (step_there s k y (subst (λ u. Accepts a k u y) same h))) (cases_lt t s)
        there (inr (inl (c, z, t, cut, lt, at, h))) = inr (inl (c, z, t, cut, lt, is_next t ∙ or_second (goes_next (state a s) s (head y) t) (next t) at, h))
        there (inr (inr (nil, at))) = inr (inr (nil, is_found k ∙ or_second (names (state a s) (head y) k) (found k) at))

        here : Step s y k (state a s) → PassInvariant a now (s + 1) next found y k
        here h = inl (s, omega arith, marked, step_back s k y (state a s) refl h)

        back : PassInvariant a now' s next' found' y k → PassInvariant a now (s + 1) next found y k
        back (inl (t, lt, at, h)) = ⊎_elim {C = PassInvariant a now (s + 1) next found y k}
            (λ go. here (inl (t, go, h))) (λ old. inl (t, omega arith, old, h)) (or_cases (goes_now (state a s) t) (now t) (sym (is_now t) ∙ at))
        back (inr (inl (c, z, t, cut, lt, at, h))) = ⊎_elim {C = PassInvariant a now (s + 1) next found y k}
            (λ go. here (inr (inl (c, z, t, cut, subst (λ l. goes_next (state a s) s (head l) t ≡ true) cut go, h))))
            (λ old. inr (inl (c, z, t, cut, lt, old, h)))
            (or_cases (goes_next (state a s) s (head y) t) (next t) (sym (is_next t) ∙ at))
        back (inr (inr (nil, at))) = ⊎_elim {C = PassInvariant a now (s + 1) next found y k}
            (λ go. here (inr (inr (nil, subst (λ l. names (state a s) (head l) k ≡ true) nil go))))
            (λ old. inr (inr (nil, old)))
            (or_cases (names (state a s) (head y) k) (found k) (sym (is_found k) ∙ at))

  -- states that are not marked are passed over
  pub all_passed : (s limit k : ℕ) (y : List ℕ) (now next found : ℕ → Bool) → s < limit → ((t : ℕ) → s < t → t < limit → now t ≡ false)
      → PassInvariant a now limit next found y k ↔ PassInvariant a now (s + 1) next found y k
  all_passed s limit k y now next found below between = (there, back)
    where
      there : PassInvariant a now limit next found y k → PassInvariant a now (s + 1) next found y k
      there (inl (t, lt, at, h)) = ⊎_elim {C = PassInvariant a now (s + 1) next found y k} (λ past. absurd (true≢false (sym at ∙ between t past lt)))
          (λ here. inl (t, omega arith, at, h)) (cases_lt s t)
      there (inr h) = inr h

      back : PassInvariant a now (s + 1) next found y k → PassInvariant a now limit next found y k
      back (inl (t, lt, at, h)) = inl (t, omega arith, at, h)
      back (inr h) = inr h

pub listed_below : (s t : ℕ) (us : List ℕ) → AreBelow s us → has_number t us ≡ true → t < s
listed_below s t [] h e = absurd (true≢false (sym e))
listed_below s t (u ∷ us) h e = ⊎_elim {C = t < s}
    (λ is. let same : t ≡ u = eqb-true t u is in let first : u < s = h 0 (omega arith) in omega arith)
    (λ other. listed_below s t us (λ i lt. h (suc i) (omega arith)) other)
    (or_cases (t == u) (has_number t us) e)

pub quiet_step : (st : State) (b k : ℕ) → false ≡ (names st (Some b) k || false)
quiet_step (bytes_state w u) b k = refl
quiet_step (union_state us) b k = refl
quiet_step (loop_state w us) b k = refl
quiet_step (match_state j) b k = refl

-- at the end of the text no byte is read
pub stays_at_end : (st : State) (s t : ℕ) → false ≡ (goes_next st s None t || false)
stays_at_end (bytes_state w u) s t = refl
stays_at_end (union_state us) s t = refl
stays_at_end (loop_state w us) s t = refl
stays_at_end (match_state j) s t = refl

pub goes_below_later : (s : ℕ) (st : State) → GoesBelow s st → (t : ℕ) → IsTrue (goes_now st t) → t < s
goes_below_later s (bytes_state w u) h t e = absurd (true≢false (sym e))
goes_below_later s (union_state us) h t e = listed_below s t us h e
goes_below_later s (loop_state w us) h t e = listed_below s t us h e
goes_below_later s (match_state j) h t e = absurd (true≢false (sym e))

module _ (a : List State) where
  -- past the last state
  pub all_swept : (now next found : ℕ → Bool) (y : List ℕ) (k : ℕ) → PassInvariant a now 0 next found y k ↔ (AcceptsLater a next y k ⊎ Found found y k)
  all_swept now next found y k = (there, λ r. inr r)
    where
      there : PassInvariant a now 0 next found y k → AcceptsLater a next y k ⊎ Found found y k
      there (inl (t, lt, at, rest)) = absurd (omega arith)
      there (inr r) = r

  -- before the first
  pub none_swept : (n : ℕ) (now next found : ℕ → Bool) (y : List ℕ) (k : ℕ) → ((t : ℕ) → t < length a → next t ≡ false) → ((t : ℕ) → found t ≡ false) → PassInvariant a now n next found y k ↔ AcceptsNow a now n y k
  none_swept n now next found y k no_next no_found = (there, λ h. inl h)
    where
      there : PassInvariant a now n next found y k → AcceptsNow a now n y k
      there (inl h) = h
      there (inr (inl (c, z, t, cut, lt, at, h))) = absurd (true≢false (sym at ∙ no_next t lt))
      there (inr (inr (nil, at))) = absurd (true≢false (sym at ∙ no_found k))

  -- a state is read: those between are not in the set, and its steps are taken
  pub read_taken : (s limit k : ℕ) (y : List ℕ) (now next found now' next' found' : ℕ → Bool) → s < limit → ((t : ℕ) → s < t → t < limit → now t ≡ false) → now s ≡ true
      → GoesBelow s (state a s)
      → ((t : ℕ) → now' t ≡ (goes_now (state a s) t || now t))
      → ((t : ℕ) → next' t ≡ (goes_next (state a s) s (head y) t || next t))
      → ((t : ℕ) → found' t ≡ (names (state a s) (head y) t || found t))
      → PassInvariant a now limit next found y k ↔ PassInvariant a now' s next' found' y k
  read_taken s limit k y now next found now' next' found' below between marked order is_now is_next is_found =
      iff_trans (all_passed a s limit k y now next found below between)
      (taken a s k y now next found now' next' found' marked (goes_below_later s (state a s) order) is_now is_next is_found)

  -- no state that is left is in the set
  pub rest_passed : (limit k : ℕ) (y : List ℕ) (now next found : ℕ → Bool) → ((t : ℕ) → t < limit → now t ≡ false)
      → PassInvariant a now limit next found y k ↔ PassInvariant a now 0 next found y k
  rest_passed limit k y now next found none = (there, back)
    where
      there : PassInvariant a now limit next found y k → PassInvariant a now 0 next found y k
      there (inl (t, lt, at, h)) = absurd (true≢false (sym at ∙ none t lt))
      there (inr h) = inr h

      back : PassInvariant a now 0 next found y k → PassInvariant a now limit next found y k
      back (inl (t, lt, at, h)) = absurd (omega arith)
      back (inr h) = inr h

  -- after the pass, inside the text
  pub next_position : (now next found : ℕ → Bool) (c : ℕ) (z : List ℕ) (k : ℕ) → PassInvariant a now 0 next found (c ∷ z) k ↔ AcceptsNow a next (length a) z k
  next_position now next found c z k = (λ h. there ((all_swept now next found (c ∷ z) k).0 h), λ (t, lt, at, h). inr (inl (c, z, t, refl, lt, at, h)))
    where
      there : (AcceptsLater a next (c ∷ z) k ⊎ Found found (c ∷ z) k) → AcceptsNow a next (length a) z k
      there (inl (d, x, t, cut, lt, at, h)) = let same : x ≡ z = cc in (t, lt, at, subst (Accepts a k t) same h)
      there (inr (nil, at)) = absurd cc

  -- after the pass, at the end of the text
  pub last_position : (now next found : ℕ → Bool) (k : ℕ) → PassInvariant a now 0 next found [] k ↔ IsTrue (found k)
  last_position now next found k = (λ h. there ((all_swept now next found [] k).0 h), λ at. inr (inr (refl, at)))
    where
      there : (AcceptsLater a next [] k ⊎ Found found [] k) → IsTrue (found k)
      there (inl (d, x, t, cut, lt, at, h)) = absurd cc
      there (inr (nil, at)) = at

  -- before the pass, where some were found before
  pub some_found : (n : ℕ) (now next found : ℕ → Bool) (k : ℕ) → ((t : ℕ) → next t ≡ false) → (AcceptsNow a now n [] k ⊎ IsTrue (found k)) ↔ PassInvariant a now n next found [] k
  some_found n now next found k no_next = (there, back)
    where
      there : (AcceptsNow a now n [] k ⊎ IsTrue (found k)) → PassInvariant a now n next found [] k
      there (inl h) = inl h
      there (inr h) = inr (inr (refl, h))

      back : PassInvariant a now n next found [] k → AcceptsNow a now n [] k ⊎ IsTrue (found k)
      back (inl h) = inl h
      back (inr (inl (c, z, t, cut, lt, at, h))) = absurd (true≢false (sym at ∙ no_next t))
      back (inr (inr (nil, at))) = inr at

-- what a state names at the end of the text

pub names_it : (st : State) (k t : ℕ) (q : Bool) → st ≡ match_state k → ((t == k) || q) ≡ (names st None t || q)
names_it st k t q is = rw is refl

pub names_none : (st : State) (t : ℕ) (q : Bool) → names st None t ≡ false → q ≡ (names st None t || q)
names_none st t q none = rw none refl

pub no_end : (P : Type 0) (Q : ℕ → Type 0) (o : Option ℕ) → MatchOption o P Q → is_some o ≡ false → P
no_end P Q None h e = h
no_end P Q (Some k) h e = absurd (true≢false e)
