-- What an automaton leads to, by the one with ends where an index is decided.
use Rattle.std.proofs.Common.{◌≡◌, ℕ, ◌+◌, ◌<◌, ◌⊎◌, inl, inr, List, [], ◌∷◌, ◌++◌, arith, refl, ap, sym, subst, ◌∙◌}
use Rattle.std.specs.Prelude.{◌↔◌}
use Rattle.byte_nfa.specs.Steps.{State, bytes_state, union_state, loop_state, match_state, state, NfaValue, HasNumber, Accepts, IsReached, ends, by_byte, by_skip, by_out, by_stay}
use Rattle.bit_sets.specs.Texts.{AllBytes}
use Rattle.bit_sets.proofs.lemmas.Texts.{rest_bytes}
use Rattle.byte_nfa.specs.EarlyMatches.{Decides, before_end, before_other, IsAtEarlyMatch, EndsAtEarlyMatches}
use Rattle.byte_nfa.proofs.lemmas.EarlyMatches.{exit_of}

-- from the state s the text leads to an end of k, or its beginning to an end of n + k
abbrev pub LeadsOrAlwaysMatches : List State → ℕ → ℕ → List ℕ → ℕ → Type 0
LeadsOrAlwaysMatches a n s y k = ((k < n) × Accepts a k s y) ⊎ ((p : List ℕ) × (q : List ℕ) × (y ≡ p ++ q) × Accepts a (n + k) s p)

-- a state that decides an index leads to no other
only_early_matches : (a : List State) (k j s : ℕ) (y : List ℕ) → Accepts a k s y → Decides a s j → j ≡ k
only_early_matches a k j s y (ends s' e) decides = let (w', t', e', every, f) = exit_of a s j decides in let no : loop_state w' (t' ∷ []) ≡ match_state k = sym e' ∙ e in cc
only_early_matches a k j s y (by_byte s' t c z w e has rest) decides = let (w', t', e', every, f) = exit_of a s j decides in let no : loop_state w' (t' ∷ []) ≡ bytes_state w t = sym e' ∙ e in cc
only_early_matches a k j s y (by_skip s' t z ts e m rest) decides = let (w', t', e', every, f) = exit_of a s j decides in let no : loop_state w' (t' ∷ []) ≡ union_state ts = sym e' ∙ e in cc
only_early_matches a k j s y (by_out s' t z w ts e m rest) decides =
    let (w', t', e', every, f) = exit_of a s j decides in
    let same : loop_state w' (t' ∷ []) ≡ loop_state w ts = sym e' ∙ e in
    let is : t' ∷ [] ≡ ts = cc in
    end_of t' f (subst (HasNumber t) (sym is) m) (λ d. only_early_matches a k j t z rest d)
  where
    named : (u : ℕ) (z' : List ℕ) → Accepts a k u z' → state a u ≡ match_state j → j ≡ k
    named u z' (ends s'' e'') g = let both : match_state j ≡ match_state k = sym g ∙ e'' in cc
    named u z' (by_byte s'' t'' c x w'' e'' has rest'') g = let no : match_state j ≡ bytes_state w'' t'' = sym g ∙ e'' in cc
    named u z' (by_skip s'' t'' x ts'' e'' m'' rest'') g = let no : match_state j ≡ union_state ts'' = sym g ∙ e'' in cc
    named u z' (by_out s'' t'' x w'' ts'' e'' m'' rest'') g = let no : match_state j ≡ loop_state w'' ts'' = sym g ∙ e'' in cc
    named u z' (by_stay s'' c x w'' ts'' e'' has rest'') g = let no : match_state j ≡ loop_state w'' ts'' = sym g ∙ e'' in cc

    end_of : (t' : ℕ) → (state a t' ≡ match_state j) ⊎ Decides a t' j → HasNumber t (t' ∷ []) → (Decides a t j → j ≡ k) → j ≡ k
    end_of t' (inl f) (inl is') further = named t z rest (subst (λ v. state a v ≡ match_state j) (sym is') f)
    end_of t' (inr d) (inl is') further = further (subst (λ v. Decides a v j) (sym is') d)
    end_of t' f (inr off) further = absurd off
only_early_matches a k j s y (by_stay s' c z w ts e has rest) decides = only_early_matches a k j s z rest decides

-- a state that decides an index leads to it by no byte
decided_at_once : (a : List State) (k s : ℕ) → Decides a s k → Accepts a k s []
decided_at_once a k s (before_end s' k' t w e every f) = by_out s t [] w (t ∷ []) e (inl refl) (ends t f)
decided_at_once a k s (before_other s' k' t w e every d) = by_out s t [] w (t ∷ []) e (inl refl) (decided_at_once a k t d)

-- and by any bytes
pub always_decided : (a : List State) (k s : ℕ) (q : List ℕ) → AllBytes q → Decides a s k → Accepts a k s q
always_decided a k s [] bytes decides = decided_at_once a k s decides
always_decided a k s (c ∷ q) bytes decides = let (w, t, e, every, f) = exit_of a s k decides in by_stay s c q w (t ∷ []) e (every c bytes.0) (always_decided a k s q bytes.1 decides)

module _ (old new : NfaValue) (made : EndsAtEarlyMatches old new) (k : ℕ) where
  at_early_match : (s : ℕ) (y : List ℕ) → Accepts old.states k s y → IsAtEarlyMatch old.states old.index_count s (state new.states s) → (state new.states s ≡ state old.states s → LeadsOrAlwaysMatches new.states old.index_count s y k) → LeadsOrAlwaysMatches new.states old.index_count s y k
  at_early_match s y h (inl (j, always_matches, e)) other =
      let is : j ≡ k = only_early_matches old.states k j s y h always_matches in
      inr ([], y, refl, ends s (e ∙ ap (λ i. match_state (old.index_count + i)) is))
  at_early_match s y h (inr (none, e)) other = other e

  told : (s : ℕ) (y : List ℕ) → Accepts old.states k s y → LeadsOrAlwaysMatches new.states old.index_count s y k
  told s y (ends s' e) = at_early_match s [] (ends s e) (made.states s) (λ same. inl (made.below s k e, ends s (same ∙ e)))
  told s y (by_byte s' t c z w e has rest) = at_early_match s (c ∷ z) (by_byte s t c z w e has rest) (made.states s) (λ same. by_case (same ∙ e) (told t z rest))
    where
      by_case : state new.states s ≡ bytes_state w t → LeadsOrAlwaysMatches new.states old.index_count t z k → LeadsOrAlwaysMatches new.states old.index_count s (c ∷ z) k
      by_case g (inl (lt, h)) = inl (lt, by_byte s t c z w g has h)
      by_case g (inr (p, q, is, h)) = inr (c ∷ p, q, ap (λ x. c ∷ x) is, by_byte s t c p w g has h)
  told s y (by_skip s' t z ts e m rest) = at_early_match s z (by_skip s t z ts e m rest) (made.states s) (λ same. by_case (same ∙ e) (told t z rest))
    where
      by_case : state new.states s ≡ union_state ts → LeadsOrAlwaysMatches new.states old.index_count t z k → LeadsOrAlwaysMatches new.states old.index_count s z k
      by_case g (inl (lt, h)) = inl (lt, by_skip s t z ts g m h)
      by_case g (inr (p, q, is, h)) = inr (p, q, is, by_skip s t p ts g m h)
  told s y (by_out s' t z w ts e m rest) = at_early_match s z (by_out s t z w ts e m rest) (made.states s) (λ same. by_case (same ∙ e) (told t z rest))
    where
      by_case : state new.states s ≡ loop_state w ts → LeadsOrAlwaysMatches new.states old.index_count t z k → LeadsOrAlwaysMatches new.states old.index_count s z k
      by_case g (inl (lt, h)) = inl (lt, by_out s t z w ts g m h)
      by_case g (inr (p, q, is, h)) = inr (p, q, is, by_out s t p w ts g m h)
  told s y (by_stay s' c z w ts e has rest) = at_early_match s (c ∷ z) (by_stay s c z w ts e has rest) (made.states s) (λ same. by_case (same ∙ e) (told s z rest))
    where
      by_case : state new.states s ≡ loop_state w ts → LeadsOrAlwaysMatches new.states old.index_count s z k → LeadsOrAlwaysMatches new.states old.index_count s (c ∷ z) k
      by_case g (inl (lt, h)) = inl (lt, by_stay s c z w ts g has h)
      by_case g (inr (p, q, is, h)) = inr (c ∷ p, q, ap (λ x. c ∷ x) is, by_stay s c p w ts g has h)

  -- a state that is no end is the state of the old automaton
  as_before : (s : ℕ) (st : State) → state new.states s ≡ st → ((j : ℕ) → st ≡ match_state j → ⊥) → IsAtEarlyMatch old.states old.index_count s (state new.states s) → state old.states s ≡ st
  as_before s st e other (inl (j, always_matches, f)) = absurd (other (old.index_count + j) (sym e ∙ f))
  as_before s st e other (inr (none, f)) = sym f ∙ e

  ends_before : (s : ℕ) → k < old.index_count → state new.states s ≡ match_state k → IsAtEarlyMatch old.states old.index_count s (state new.states s) → state old.states s ≡ match_state k
  ends_before s lt e (inl (j, always_matches, f)) = let both : match_state k ≡ match_state (old.index_count + j) = sym e ∙ f in let is : k ≡ old.index_count + j = cc in absurd (omega arith)
  ends_before s lt e (inr (none, f)) = sym f ∙ e

  at_end : (s : ℕ) (y : List ℕ) → k < old.index_count → Accepts new.states k s y → Accepts old.states k s y
  at_end s y lt (ends s' e) = ends s (ends_before s lt e (made.states s))
  at_end s y lt (by_byte s' t c z w e has rest) = by_byte s t c z w (as_before s (bytes_state w t) e (λ j no. cc) (made.states s)) has (at_end t z lt rest)
  at_end s y lt (by_skip s' t z ts e m rest) = by_skip s t z ts (as_before s (union_state ts) e (λ j no. cc) (made.states s)) m (at_end t z lt rest)
  at_end s y lt (by_out s' t z w ts e m rest) = by_out s t z w ts (as_before s (loop_state w ts) e (λ j no. cc) (made.states s)) m (at_end t z lt rest)
  at_end s y lt (by_stay s' c z w ts e has rest) = by_stay s c z w ts (as_before s (loop_state w ts) e (λ j no. cc) (made.states s)) has (at_end s z lt rest)

  decides_before : (s : ℕ) → state new.states s ≡ match_state (old.index_count + k) → IsAtEarlyMatch old.states old.index_count s (state new.states s) → Decides old.states s k
  decides_before s e (inl (j, always_matches, f)) =
      let both : match_state (old.index_count + k) ≡ match_state (old.index_count + j) = sym e ∙ f in
      let sums : old.index_count + k ≡ old.index_count + j = cc in
      let is : j ≡ k = omega arith in subst (Decides old.states s) is always_matches
  decides_before s e (inr (none, f)) = let lt = made.below s (old.index_count + k) (sym f ∙ e) in absurd (omega arith)

  on_entry : (s : ℕ) (p q : List ℕ) → AllBytes q → Accepts new.states (old.index_count + k) s p → Accepts old.states k s (p ++ q)
  on_entry s p q bytes (ends s' e) = always_decided old.states k s q bytes (decides_before s e (made.states s))
  on_entry s p q bytes (by_byte s' t c z w e has rest) = by_byte s t c (z ++ q) w (as_before s (bytes_state w t) e (λ j no. cc) (made.states s)) has (on_entry t z q bytes rest)
  on_entry s p q bytes (by_skip s' t z ts e m rest) = by_skip s t (z ++ q) ts (as_before s (union_state ts) e (λ j no. cc) (made.states s)) m (on_entry t z q bytes rest)
  on_entry s p q bytes (by_out s' t z w ts e m rest) = by_out s t (z ++ q) w ts (as_before s (loop_state w ts) e (λ j no. cc) (made.states s)) m (on_entry t z q bytes rest)
  on_entry s p q bytes (by_stay s' c z w ts e has rest) = by_stay s c (z ++ q) w ts (as_before s (loop_state w ts) e (λ j no. cc) (made.states s)) has (on_entry s z q bytes rest)

  below : (s : ℕ) (y : List ℕ) → Accepts old.states k s y → k < old.index_count
  below s y (ends s' e) = made.below s k e
  below s y (by_byte s' t c z w e has rest) = below t z rest
  below s y (by_skip s' t z ts e m rest) = below t z rest
  below s y (by_out s' t z w ts e m rest) = below t z rest
  below s y (by_stay s' c z w ts e has rest) = below s z rest

  -- the old automaton leads to k exactly if the new one does, or leads to n + k by the beginning of the text
  pub reached_by : (y : List ℕ) → AllBytes y
      → IsReached old y k ↔ ((k < old.index_count) × (IsReached new y k ⊎ ((p : List ℕ) × (q : List ℕ) × (y ≡ p ++ q) × IsReached new p (old.index_count + k))))
  reached_by y bytes = (
    λ (s, begins, h). (below s y h, by_case s (subst (HasNumber s) (sym made.starts) begins) (told s y h)),
    λ (lt, h). back lt h,
  )
    where
      by_case : (s : ℕ) → HasNumber s new.starts → LeadsOrAlwaysMatches new.states old.index_count s y k → IsReached new y k ⊎ ((p : List ℕ) × (q : List ℕ) × (y ≡ p ++ q) × IsReached new p (old.index_count + k))
      by_case s begins (inl (lt, h)) = inl (s, begins, h)
      by_case s begins (inr (p, q, is, h)) = inr (p, q, is, (s, begins, h))

      back : k < old.index_count → IsReached new y k ⊎ ((p : List ℕ) × (q : List ℕ) × (y ≡ p ++ q) × IsReached new p (old.index_count + k)) → IsReached old y k
      back lt (inl (s, begins, h)) = (s, subst (HasNumber s) made.starts begins, at_end s y lt h)
      back lt (inr (p, q, is, (s, begins, h))) =
          let rest = rest_bytes p q (subst AllBytes is bytes) in
          (s, subst (HasNumber s) made.starts begins, subst (Accepts old.states k s) (sym is) (on_entry s p q rest h))
