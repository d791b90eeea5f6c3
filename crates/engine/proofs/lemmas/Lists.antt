-- Members of lists, and what lists of states accept.
use Rattle.std.proofs.Common.{◌≡◌, ℕ, zero, suc, ◌<◌, ◌≤◌, ◌⊎◌, inl, inr, List, [], ◌∷◌, ◌++◌, length, slice_index, arith, refl, sym, subst, ◌∙◌}
use Rattle.std.specs.Prelude.{◌↔◌}
use Rattle.std.proofs.Math.Logic.{⊎_elim}
use Rattle.bit_sets.specs.Numbers.{AreBelow}
use Rattle.byte_nfa.specs.Building.{Agrees, Keeps}
use Rattle.byte_nfa.specs.Runs.{size}
use Rattle.byte_nfa.specs.Steps.{State, union_state, state, NfaValue, HasNumber, Accepts, ends, by_byte, by_skip, by_out, by_stay}
use Rattle.engine.specs.inner.Lists.{AcceptsSome, AcceptsBefore, AcceptAlike, IsStateFor}

-- members

pub in_append : (t : ℕ) (xs ys : List ℕ) → HasNumber t (xs ++ ys) ↔ (HasNumber t xs ⊎ HasNumber t ys)
in_append t xs ys = (there t xs ys, λ h. ⊎_elim {C = HasNumber t (xs ++ ys)} (first t xs ys) (second t xs ys) h)
  where
    there : (t : ℕ) (xs ys : List ℕ) → HasNumber t (xs ++ ys) → HasNumber t xs ⊎ HasNumber t ys
    there t [] ys h = inr h
    there t (x ∷ xs) ys (inl e) = inl (inl e)
    there t (x ∷ xs) ys (inr h) = ⊎_elim {C = ((t ≡ x) ⊎ HasNumber t xs) ⊎ HasNumber t ys} (λ a. inl (inr a)) (λ b. inr b) (there t xs ys h)

    first : (t : ℕ) (xs ys : List ℕ) → HasNumber t xs → HasNumber t (xs ++ ys)
    first t [] ys h = absurd h
    first t (x ∷ xs) ys (inl e) = inl e
    first t (x ∷ xs) ys (inr h) = inr (first t xs ys h)

    second : (t : ℕ) (xs ys : List ℕ) → HasNumber t ys → HasNumber t (xs ++ ys)
    second t [] ys h = h
    second t (x ∷ xs) ys h = inr (second t xs ys h)

pub place_in : (t : ℕ) (xs : List ℕ) → HasNumber t xs → (i : ℕ) × (i < length xs) × (slice_index xs i ≡ t)
place_in t [] h = absurd h
place_in t (x ∷ xs) (inl e) = (0, omega arith, sym e)
place_in t (x ∷ xs) (inr h) = let (i, lt, is) = place_in t xs h in (suc i, omega arith, is)

pub in_place : (xs : List ℕ) (i : ℕ) → i < length xs → HasNumber (slice_index xs i) xs
in_place [] i lt = absurd (omega arith)
in_place (x ∷ xs) zero lt = inl refl
in_place (x ∷ xs) (suc i) lt = inr (in_place xs i (omega arith))

pub below_push : (n m x : ℕ) (xs : List ℕ) → AreBelow n xs → n ≤ m → x < m → AreBelow m (xs ++ x ∷ [])
below_push n m x [] below le lt zero within = lt
below_push n m x [] below le lt (suc i) within = absurd (omega arith)
below_push n m x (y ∷ ys) below le lt zero within = let h = below 0 (omega arith) in omega arith
below_push n m x (y ∷ ys) below le lt (suc i) within = below_push n m x ys (λ j l. below (suc j) (omega arith)) le lt i (omega arith)

-- what lists accept

module _ (a : List State) (y : List ℕ) (k : ℕ) where
  pub accepts_append : (xs ys : List ℕ) → AcceptsSome a (xs ++ ys) y k ↔ (AcceptsSome a xs y k ⊎ AcceptsSome a ys y k)
  accepts_append xs ys = (
    λ (s, at, h). ⊎_elim {C = AcceptsSome a xs y k ⊎ AcceptsSome a ys y k} (λ l. inl (s, l, h)) (λ r. inr (s, r, h)) ((in_append s xs ys).0 at),
    λ some. ⊎_elim {C = AcceptsSome a (xs ++ ys) y k} (λ (s, at, h). (s, (in_append s xs ys).1 (inl at), h)) (λ (s, at, h). (s, (in_append s xs ys).1 (inr at), h)) some,
  )

  pub accepts_one : (s : ℕ) → AcceptsSome a (s ∷ []) y k ↔ Accepts a k s y
  accepts_one s = (one, λ h. (s, inl refl, h))
    where
      one : AcceptsSome a (s ∷ []) y k → Accepts a k s y
      one (t, inl e, h) = subst (λ x. Accepts a k x y) e h
      one (t, inr other, h) = absurd other

  -- a union accepts what the states that it goes on to accept
  pub union_accepts : (s : ℕ) (us : List ℕ) → state a s ≡ union_state us → Accepts a k s y ↔ AcceptsSome a us y k
  union_accepts s us is = (there s y is, λ (t, at, h). by_skip s t y us is at h)
    where
      there : (s : ℕ) (y : List ℕ) → state a s ≡ union_state us → Accepts a k s y → AcceptsSome a us y k
      there s y is (ends s' e) = absurd (let no = sym is ∙ e in cc)
      there s y is (by_byte s' t c z w e has rest) = absurd (let no = sym is ∙ e in cc)
      there s y is (by_skip s' t z ts e m rest) = let same : ts ≡ us = (let eq = sym e ∙ is in cc) in (t, subst (HasNumber t) same m, rest)
      there s y is (by_out s' t z w ts e m rest) = absurd (let no = sym is ∙ e in cc)
      there s y is (by_stay s' c z w ts e has rest) = absurd (let no = sym is ∙ e in cc)

  -- all places of a list are its members
  pub accepts_all : (l : List ℕ) (n : ℕ) → n ≡ length l → AcceptsBefore a l n y k ↔ AcceptsSome a l y k
  accepts_all l n len = (
    λ (i, lt, h). (slice_index l i, in_place l i (omega (arith, len)), h),
    λ (s, at, h). let (i, lt, is) = place_in s l at in (i, omega (arith, len), subst (λ x. Accepts a k x y) (sym is) h),
  )

-- lists with the same members are alike
pub alike_members : (m : NfaValue) (xs ys : List ℕ) → ((s : ℕ) → HasNumber s xs ↔ HasNumber s ys) → AcceptAlike m xs ys
alike_members m xs ys same y k = (λ (s, at, h). (s, (same s).0 at, h), λ (s, at, h). (s, (same s).1 at, h))

-- a list is alike another whose members, in some order, are those of a list that it is alike
pub alike_in_order : (m : NfaValue) (list states in_order : List ℕ) → AcceptAlike m list states → ((s : ℕ) → HasNumber s in_order ↔ HasNumber s states) → AcceptAlike m list in_order
alike_in_order m list states in_order alike members y k =
    let same : AcceptAlike m in_order states = alike_members m in_order states members in
    (λ h. (same y k).1 ((alike y k).0 h), λ h. (alike y k).1 ((same y k).0 h))

-- what holds in each list that agrees holds after more pushes

pub agrees_before : (a : List State) (old new : NfaValue) → Keeps old.states new.states → Agrees a new.states 0 (size new) → Agrees a old.states 0 (size old)
agrees_before a old new keeps agrees s low high = agrees s low (let le = keeps.0 in omega arith) ∙ keeps.1 s low high

pub kept : (old new more : NfaValue) (l : List ℕ) (u : ℕ) → Keeps new.states more.states → IsStateFor old new l u → IsStateFor old more l u
kept old new more l u keeps made = record {
  below = let le = keeps.0 in let lt = made.below in omega arith;
  stands = λ a agrees. made.stands a (agrees_before a new more keeps agrees);
}

pub state_of_alike : (old new : NfaValue) (l l' : List ℕ) (u : ℕ) → AcceptAlike old l l' → IsStateFor old new l' u → IsStateFor old new l u
state_of_alike old new l l' u alike made = record {
  below = made.below;
  stands = λ a agrees y k. (λ h. (alike y k).1 ((made.stands a agrees y k).0 h), λ h. (made.stands a agrees y k).1 ((alike y k).0 h));
}

-- a state is taken off the end of those that wait

module _ (a : List State) (list states waiting rest : List ℕ) (s : ℕ) (cut : waiting ≡ rest ++ s ∷ [])
    (same : (y : List ℕ) (k : ℕ) → AcceptsSome a list y k ↔ (AcceptsSome a states y k ⊎ AcceptsSome a waiting y k)) where
  -- what a union goes on to waits in its place
  pub union_taken : (us more : List ℕ) → state a s ≡ union_state us → more ≡ rest ++ us → (y : List ℕ) (k : ℕ) → AcceptsSome a list y k ↔ (AcceptsSome a states y k ⊎ AcceptsSome a more y k)
  union_taken us more is are y k =
      let ends_with = accepts_append a y k rest (s ∷ []) in
      let goes_on = accepts_append a y k rest us in
      let one = accepts_one a y k s in
      let union = union_accepts a y k s us is in
      let swap : AcceptsSome a waiting y k ↔ AcceptsSome a more y k = rw (cut, are) (
        λ h. goes_on.1 (⊎_elim {C = AcceptsSome a rest y k ⊎ AcceptsSome a us y k} (λ x. inl x) (λ x. inr (union.0 (one.0 x))) (ends_with.0 h)),
        λ h. ends_with.1 (⊎_elim {C = AcceptsSome a rest y k ⊎ AcceptsSome a (s ∷ []) y k} (λ x. inl x) (λ x. inr (one.1 (union.1 x))) (goes_on.0 h)),
      ) in (
        λ h. ⊎_elim {C = AcceptsSome a states y k ⊎ AcceptsSome a more y k} (λ x. inl x) (λ x. inr (swap.0 x)) ((same y k).0 h),
        λ h. (same y k).1 (⊎_elim {C = AcceptsSome a states y k ⊎ AcceptsSome a waiting y k} (λ x. inl x) (λ x. inr (swap.1 x)) h),
      )

  -- another state is kept
  pub state_kept : (more : List ℕ) → more ≡ states ++ s ∷ [] → (y : List ℕ) (k : ℕ) → AcceptsSome a list y k ↔ (AcceptsSome a more y k ⊎ AcceptsSome a rest y k)
  state_kept more are y k =
      let ends_with : AcceptsSome a waiting y k ↔ (AcceptsSome a rest y k ⊎ AcceptsSome a (s ∷ []) y k) = rw cut (accepts_append a y k rest (s ∷ [])) in
      let holds : AcceptsSome a more y k ↔ (AcceptsSome a states y k ⊎ AcceptsSome a (s ∷ []) y k) = rw are (accepts_append a y k states (s ∷ [])) in (
        λ h. ⊎_elim {C = AcceptsSome a more y k ⊎ AcceptsSome a rest y k} (λ x. inl (holds.1 (inl x)))
            (λ x. ⊎_elim {C = AcceptsSome a more y k ⊎ AcceptsSome a rest y k} (λ r. inr r) (λ o. inl (holds.1 (inr o))) (ends_with.0 x)) ((same y k).0 h),
        λ h. (same y k).1 (⊎_elim {C = AcceptsSome a states y k ⊎ AcceptsSome a waiting y k}
            (λ x. ⊎_elim {C = AcceptsSome a states y k ⊎ AcceptsSome a waiting y k} (λ r. inl r) (λ o. inr (ends_with.1 (inr o))) (holds.0 x)) (λ x. inr (ends_with.1 (inl x))) h),
      )

-- no state waits any more
pub none_waits : (a : List State) (list states waiting : List ℕ) → waiting ≡ [] → ((y : List ℕ) (k : ℕ) → AcceptsSome a list y k ↔ (AcceptsSome a states y k ⊎ AcceptsSome a waiting y k))
    → (y : List ℕ) (k : ℕ) → AcceptsSome a list y k ↔ AcceptsSome a states y k
none_waits a list states waiting none same y k = (
  λ h. ⊎_elim {C = AcceptsSome a states y k} (λ x. x) (λ x. let (s, at, rest) = subst (λ l. AcceptsSome a l y k) none x in absurd at) ((same y k).0 h),
  λ h. (same y k).1 (inl h),
)

-- members in another order
