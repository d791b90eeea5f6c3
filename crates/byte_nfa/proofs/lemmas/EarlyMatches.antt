-- Automata with ends where an index is decided.
use Rattle.std.proofs.Common.{◌≡◌, ℕ, ◌+◌, ◌-◌, ◌*◌, ◌⊎◌, ◌<◌, ◌≤◌, inl, inr, List, [], ◌∷◌, ◌++◌, length, get_or, arith, refl, ap, sym, subst, ◌∙◌}
use Rattle.std.proofs.lemmas.Bool.{cases_lt}
use Rattle.std.proofs.lemmas.List.{length-map, length-append, get_or_past}
use Rattle.std.proofs.Math.Logic.{⊎_elim}
use Rattle.bit_sets.specs.declared.byte_set.ByteSet.{ByteSet}
use Rattle.byte_nfa.specs.declared.state.State as declared
use Rattle.byte_nfa.specs.declared.state.State.TheVariants.{Bytes, Union, Loop, Match}
use Rattle.byte_nfa.specs.Steps.{State, bytes_state, union_state, loop_state, match_state, state, NfaValue}
use Rattle.byte_nfa.specs.EarlyMatches.{Decides, before_end, before_other, IsAtEarlyMatch, EndsAtEarlyMatches}
use Rattle.bit_sets.specs.Bytes.{HasEvery}
use Rattle.byte_nfa.specs.inner.Exits.{StaysBefore, IsNoEnd, TellsDecision, TellDecisions}
use Rattle.byte_nfa.specs.inner.Views.{of_state, of_states, GoesBelow, NamesBelow, AreSound, nfa}
use Rattle.byte_nfa.proofs.lemmas.Pushing.{pushed_last, pushed_before, states_push, sound_push}
use Rattle.byte_nfa.proofs.lemmas.Reading.{held_at, state_at, read_state}

-- a state that decides goes on to one state
pub exit_of : (a : List State) (s k : ℕ) → Decides a s k → (w : ByteSet) × (t : ℕ) × (state a s ≡ loop_state w (t ∷ [])) × HasEvery w × ((state a t ≡ match_state k) ⊎ Decides a t k)
exit_of a s k (before_end s' k' t w e every f) = (w, t, e, every, inl f)
exit_of a s k (before_other s' k' t w e every d) = (w, t, e, every, inr d)

pub always_matches_none : (a : List State) (s : ℕ) (st : State) → state a s ≡ st → ((t : ℕ) → StaysBefore st t → ⊥) → (k : ℕ) → Decides a s k → ⊥
always_matches_none a s st is none k decides = let (w, t, e, every, f) = exit_of a s k decides in none t (w, sym is ∙ e, every)

-- a state before an end, before one that decides, and before another
module _ (a : List State) (n s t : ℕ) (st : State) (is : state a s ≡ st) (before : StaysBefore st t) where
  pub decides_end : (j : ℕ) → TellsDecision a n t (Match j) → j < n → Decides a s j × (j < n)
  decides_end j (inl (lt, f)) low = let (w, e, every) = before in (before_end s j t w (is ∙ e) every f, low)
  decides_end j (inr (k, lt, eq, d)) low = absurd (omega (arith, eq, low))

  pub decides_other : (j i : ℕ) → TellsDecision a n t (Match j) → n ≤ j → i ≡ j - n → Decides a s i × (i < n)
  decides_other j i (inl (lt, f)) high same = absurd (omega (arith, lt, high))
  decides_other j i (inr (k, lt, eq, d)) high same =
      let (w, e, every) = before in
      let here : k ≡ i = omega (arith, eq, same) in
      (subst (Decides a s) here (before_other s k t w (is ∙ e) every d), omega (arith, here, lt))

  pub decides_none : IsNoEnd a t → (k : ℕ) → Decides a s k → ⊥
  decides_none (undecided, no_end) k decides =
      let (w, e, every) = before in
      let (w', t', e', every', f') = exit_of a s k decides in
      let same : t' ≡ t = other w w' t t' (sym e ∙ sym is ∙ e') in
      ⊎_elim {C = ⊥} (λ f. no_end k (subst (λ u. state a u ≡ match_state k) same f)) (λ d. undecided k (subst (λ u. Decides a u k) same d)) f'
    where
      other : (v v' : ByteSet) (u u' : ℕ) → loop_state v (u ∷ []) ≡ loop_state v' (u' ∷ []) → u' ≡ u
      other v v' u u' h = cc

-- what is no end tells of none
pub tells_none : (a : List State) (n t : ℕ) (x : declared.State) → ((j : ℕ) → x ≡ Match j → ⊥) → TellsDecision a n t x → IsNoEnd a t
tells_none a n t (Bytes m u) other tells = tells
tells_none a n t (Union m) other tells = tells
tells_none a n t (Loop m u) other tells = tells
tells_none a n t (Match j) other tells = absurd (other j refl)

-- what stands for a state tells of it

-- an index that is decided is one of the automaton's
pub decided_small : (a : List State) (n : ℕ) → ((s j : ℕ) → state a s ≡ match_state j → j < n) → (t k : ℕ) → Decides a t k → k < n
decided_small a n named t k (before_end s' k' u w e every f) = named u k f
decided_small a n named t k (before_other s' k' u w e every d) = decided_small a n named u k d

module _ (a : List State) (n t : ℕ) (sets : List ByteSet) (targets : List ℕ) (named : (s j : ℕ) → state a s ≡ match_state j → j < n) where
  no_end : (st : State) → ((j : ℕ) → st ≡ match_state j → ⊥) → IsAtEarlyMatch a n t st → IsNoEnd a t
  no_end st other (inl (k, d, e)) = absurd (other (n + k) e)
  no_end st other (inr (none, e)) = (none, λ k f. other k (e ∙ f))

  pub tells_decision : (x : declared.State) → IsAtEarlyMatch a n t (of_state sets targets x) → TellsDecision a n t x
  tells_decision (Bytes m u) at = no_end (of_state sets targets (Bytes m u)) (λ j h. cc) at
  tells_decision (Union m) at = no_end (of_state sets targets (Union m)) (λ j h. cc) at
  tells_decision (Loop m u) at = no_end (of_state sets targets (Loop m u)) (λ j h. cc) at
  tells_decision (Match j) (inl (k, d, e)) = inr (k, decided_small a n named t k d, (let h : match_state j ≡ match_state (n + k) = e in cc), d)
  tells_decision (Match j) (inr (none, e)) = inl (named t j (sym e), sym e)

-- the list of states with one more

named_more : (n m : ℕ) (st : State) → n ≤ m → NamesBelow n st → NamesBelow m st
named_more n m (bytes_state w t) le h = tt
named_more n m (union_state us) le h = tt
named_more n m (loop_state w us) le h = tt
named_more n m (match_state k) le h = omega arith

pub each_next : (P : ℕ → State → Type 0) (sets : List ByteSet) (targets : List ℕ) (xs : List declared.State) (x : declared.State)
    → ((s : ℕ) → s < length xs → P s (state (of_states sets targets xs) s)) → P (length xs) (of_state sets targets x)
    → (s : ℕ) → s < length xs + 1 → P s (state (of_states sets targets (xs ++ x ∷ [])) s)
each_next P sets targets xs x each this s lt =
    let old = of_states sets targets xs in
    let len : length old ≡ length xs = length-map xs (of_state sets targets) in
    subst (λ l. P s (state l s)) (sym (states_push sets targets xs x))
    (⊎_elim {C = P s (state (old ++ of_state sets targets x ∷ []) s)}
    (λ before. subst (P s) (sym (pushed_before old (of_state sets targets x) s (omega arith))) (each s before))
    (λ after. let is : length old ≡ s = omega arith in
    subst (λ n. P n (state (old ++ of_state sets targets x ∷ []) n)) is (subst (P (length old)) (sym (pushed_last old (of_state sets targets x))) (subst (λ n. P n (of_state sets targets x)) (sym len) this)))
    (cases_lt s (length xs)))

-- the states so far, up to the state s
pub record AreEarlyMatches (m : NfaValue) (sets : List ByteSet) (targets : List ℕ) (xs : List declared.State) (s : ℕ) : Type 0 where
  pub len : length xs ≡ s
  pub sound : AreSound sets targets xs [] (m.index_count * 2)
  pub states : (t : ℕ) → t < s → IsAtEarlyMatch m.states m.index_count t (state (of_states sets targets xs) t)

module _ (m : NfaValue) (sets : List ByteSet) (targets : List ℕ) (states : List declared.State) (starts : List ℕ) (n : ℕ) (value : nfa sets targets states starts n ≡ m) (sound : AreSound sets targets states starts n)
    (xs : List declared.State) (s : ℕ) (so_far : AreEarlyMatches m sets targets xs s) where
  count : n ≡ m.index_count
  count = ap (λ (o : NfaValue). o.index_count) value

  one_more : (x : declared.State) → AreSound sets targets (xs ++ x ∷ []) [] (m.index_count * 2) → IsAtEarlyMatch m.states m.index_count s (of_state sets targets x) → AreEarlyMatches m sets targets (xs ++ x ∷ []) (s + 1)
  one_more x sound' at = record {
    len = omega (arith, length-append xs (x ∷ []), so_far.len);
    sound = sound';
    states = λ t lt. each_next (λ t'. IsAtEarlyMatch m.states m.index_count t') sets targets xs x (λ t' lt'. so_far.states t' (omega (arith, so_far.len)))
        (subst (λ t'. IsAtEarlyMatch m.states m.index_count t' (of_state sets targets x)) (sym so_far.len) at) t (omega (arith, so_far.len));
  }

  -- what stands for the states so far tells of them
  pub tell_decisions : TellDecisions m.states m.index_count s xs
  tell_decisions t x lt is =
      tells_decision m.states m.index_count t sets targets (λ u j e. subst (λ v. j < v) count (subst (NamesBelow n) (ap (λ (o : NfaValue). state o.states u) value ∙ e) (sound.named u))) x
      (subst (IsAtEarlyMatch m.states m.index_count t) (state_at sets targets xs t x (omega (arith, so_far.len)) is) (so_far.states t lt))

  -- an end in place of the next state
  pub decided_more : (k : ℕ) → Decides m.states s k → k < m.index_count → AreEarlyMatches m sets targets (xs ++ Match (n + k) ∷ []) (s + 1)
  decided_more k always_matches lt =
      let same : n ≡ m.index_count = count in
      one_more (Match (n + k)) (sound_push sets targets xs (Match (n + k)) [] (m.index_count * 2) so_far.sound tt tt (omega arith)) (inl (k, always_matches, ap (λ j. match_state (j + k)) count))

  -- the next state as it is
  pub same_more : (x : declared.State) → s < length states → x ≡ get_or states s x → ((k : ℕ) → Decides m.states s k → ⊥) → AreEarlyMatches m sets targets (xs ++ x ∷ []) (s + 1)
  same_more x lt is none =
      let same : n ≡ m.index_count = count in
      let st = state_at sets targets states s x lt is in
      one_more x
      (sound_push sets targets xs x [] (m.index_count * 2) so_far.sound (held_at sets targets states s x sound.held lt is)
      (subst (λ t. GoesBelow t (of_state sets targets x)) (sym so_far.len) (subst (GoesBelow s) st (sound.down s)))
      (named_more n (m.index_count * 2) (of_state sets targets x) (omega arith) (subst (NamesBelow n) st (sound.named s))))
      (inr (none, sym (read_state m sets targets states starts n s x value lt is)))

pub all_decisions : (m new : NfaValue) (sets : List ByteSet) (targets : List ℕ) (xs : List declared.State) (starts : List ℕ)
    → nfa sets targets xs starts (m.index_count * 2) ≡ new → starts ≡ m.starts → length xs ≡ length m.states
    → ((s : ℕ) → s < length xs → IsAtEarlyMatch m.states m.index_count s (state (of_states sets targets xs) s))
    → ((s : ℕ) → NamesBelow m.index_count (state m.states s))
    → EndsAtEarlyMatches m new
all_decisions m new sets targets xs starts is begun len each named = subst (EndsAtEarlyMatches m) is record {
  below = λ s k e. subst (NamesBelow m.index_count) e (named s);
  states = at;
  len = length-map xs (of_state sets targets) ∙ len;
  starts = begun;
  index_count = refl;
}
  where
    none : (s k : ℕ) → length m.states ≤ s → Decides m.states s k → ⊥
    none s k past decides = let (w, t, e, every, f) = exit_of m.states s k decides in let other : union_state [] ≡ loop_state w (t ∷ []) = sym (get_or_past m.states s (union_state []) past) ∙ e in cc

    at : (s : ℕ) → IsAtEarlyMatch m.states m.index_count s (state (of_states sets targets xs) s)
    at s = ⊎_elim {C = IsAtEarlyMatch m.states m.index_count s (state (of_states sets targets xs) s)}
        (λ low. each s low)
        (λ past. inr (λ k. none s k (omega arith), get_or_past (of_states sets targets xs) s (union_state []) (omega (arith, length-map xs (of_state sets targets))) ∙ sym (get_or_past m.states s (union_state []) (omega arith))))
        (cases_lt s (length xs))
