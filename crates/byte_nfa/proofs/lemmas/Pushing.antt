-- What a push does to the parts of an automaton.
use Rattle.std.proofs.Common.{◌≡◌, ℕ, zero, suc, ◌+◌, ◌-◌, ◌<◌, ◌≤◌, inl, inr, List, [], ◌∷◌, ◌++◌, length, take, drop, slice_index, slice_range, arith, refl, ap, sym, subst, ◌∙◌}
use Rattle.std.proofs.lemmas.Bool.{cases_lt}
use Rattle.std.proofs.lemmas.List.{length-map, length-append, map-append, get_or_append_left, get_or_push, get_or_past, length-drop, take-append-le, drop-append-le, take_all, append_assoc}
use Rattle.std.proofs.Math.Seq.{drop-append_seam, get_or-append_seam}
use Rattle.byte_nfa.specs.Steps.{State, bytes_state, union_state, loop_state, state, NfaValue}
use Rattle.bit_sets.specs.Numbers.{AreBelow}
use Rattle.byte_nfa.specs.Building.{Pushes}
use Rattle.byte_nfa.specs.inner.Views.{exits_at, of_state, of_states, IsHeld, AreHeld, GoesBelow, NamesBelow, AreSound, nfa}
use Rattle.std.specs.Prelude.{Result, Ok, Err, OnErr}
use Rattle.bit_sets.specs.declared.byte_set.ByteSet.{ByteSet}
use Rattle.byte_nfa.specs.declared.state.State as declared
use Rattle.byte_nfa.specs.declared.state.State.TheVariants.{Bytes, Union, Loop, Match}

-- lists of states

pub pushed_last : (old : List State) (st : State) → state (old ++ st ∷ []) (length old) ≡ st
pushed_last old st = get_or_push old st (union_state []) (length old) refl

pub pushed_before : (old : List State) (st : State) (s : ℕ) → s < length old → state (old ++ st ∷ []) s ≡ state old s
pushed_before old st s h = get_or_append_left old (st ∷ []) (union_state []) s h

pub pushes : (old new : NfaValue) (st : State) → new.states ≡ old.states ++ st ∷ [] → new.starts ≡ old.starts → new.index_count ≡ old.index_count
    → Pushes old new (length old.states) st
pushes old new st is starts count =
    let len : length new.states ≡ length old.states + 1 = ap length is ∙ length-append old.states (st ∷ []) in record {
      at = refl;
      states = is;
      starts = starts;
      index_count = count;
      len = len;
      keeps = (omega arith, λ s low high. rw is (pushed_before old.states st s high));
      adds = λ a low le agrees. agrees (length old.states) le (omega arith) ∙ rw is (pushed_last old.states st);
    }

-- a fact of each number, for the states with one more
pub each_pushed : (P : ℕ → State → Type 0) (old : List State) (st : State) → ((s : ℕ) → P s (state old s)) → P (length old) st → ((s : ℕ) → P s (union_state []))
    → (s : ℕ) → P s (state (old ++ st ∷ []) s)
each_pushed P old st each this none s =
    elim (cases_lt s (length old)) as (λ _. P s (state (old ++ st ∷ []) s)) [
      | inl before ↦ subst (P s) (sym (pushed_before old st s before)) (each s)
      | inr after ↦
          elim (cases_lt (length old) s) as (λ _. P s (state (old ++ st ∷ []) s)) [
            | inl past ↦ subst (P s) (sym (get_or_past (old ++ st ∷ []) s (union_state []) (omega (arith, length-append old (st ∷ []))))) (none s)
            | inr here ↦ (let same : length old ≡ s = omega arith in subst (λ n. P n (state (old ++ st ∷ []) n)) same (subst (P (length old)) (sym (pushed_last old st)) this))
          ]
    ]

-- the lists of sets and of next states may grow

pub range_more : (xs more : List ℕ) (i j : ℕ) → i ≤ j → j ≤ length xs → slice_range (xs ++ more) i j ≡ slice_range xs i j
range_more xs more i j le within =
    ap (take (j - i)) (drop-append-le i xs more (omega arith)) ∙ take-append-le (j - i) (drop i xs) more (omega (arith, length-drop i xs))

count_more : (targets more : List ℕ) (at : ℕ) → at < length targets → slice_index (targets ++ more) at ≡ slice_index targets at
count_more targets more at lt = get_or_append_left targets more 0 at lt

exits_more : (targets more : List ℕ) (at : ℕ) → at + slice_index targets at < length targets → exits_at (targets ++ more) at ≡ exits_at targets at
exits_more targets more at lt =
    ap (λ count. slice_range (targets ++ more) (at + 1) (at + 1 + count)) (count_more targets more at (omega (arith, lt)))
    ∙ range_more targets more (at + 1) (at + 1 + slice_index targets at) (omega arith) (omega (arith, lt))

state_more : (sets ss : List ByteSet) (targets more : List ℕ) (x : declared.State) → IsHeld sets targets x → of_state (sets ++ ss) (targets ++ more) x ≡ of_state sets targets x
state_more sets ss targets more (Bytes n t) h = ap (λ w. bytes_state w t) (get_or_append_left sets ss (record { words = [] }) n h)
state_more sets ss targets more (Union at) h = ap union_state (exits_more targets more at h)
state_more sets ss targets more (Loop n t) h = ap (λ w. loop_state w (t ∷ [])) (get_or_append_left sets ss (record { words = [] }) n h)
state_more sets ss targets more (Match k) h = refl

states_more : (sets ss : List ByteSet) (targets more : List ℕ) (xs : List declared.State) → AreHeld sets targets xs → of_states (sets ++ ss) (targets ++ more) xs ≡ of_states sets targets xs
states_more sets ss targets more [] h = refl
states_more sets ss targets more (x ∷ xs) h = rw (state_more sets ss targets more x h.0) (ap (λ l. of_state sets targets x ∷ l) (states_more sets ss targets more xs h.1))

held_more : (sets ss : List ByteSet) (targets more : List ℕ) (x : declared.State) → IsHeld sets targets x → IsHeld (sets ++ ss) (targets ++ more) x
held_more sets ss targets more (Bytes n t) h = omega (arith, h, length-append sets ss)
held_more sets ss targets more (Union at) h = omega (arith, h, count_more targets more at (omega (arith, h)), length-append targets more)
held_more sets ss targets more (Loop n t) h = omega (arith, h, length-append sets ss)
held_more sets ss targets more (Match k) h = tt

all_held_more : (sets ss : List ByteSet) (targets more : List ℕ) (xs : List declared.State) → AreHeld sets targets xs → AreHeld (sets ++ ss) (targets ++ more) xs
all_held_more sets ss targets more [] h = tt
all_held_more sets ss targets more (x ∷ xs) h = (held_more sets ss targets more x h.0, all_held_more sets ss targets more xs h.1)

pub held_push : (sets : List ByteSet) (targets : List ℕ) (xs : List declared.State) (x : declared.State) → AreHeld sets targets xs → IsHeld sets targets x → AreHeld sets targets (xs ++ x ∷ [])
held_push sets targets [] x h this = (this, tt)
held_push sets targets (y ∷ ys) x h this = (h.0, held_push sets targets ys x h.1 this)

pub states_push : (sets : List ByteSet) (targets : List ℕ) (xs : List declared.State) (x : declared.State) → of_states sets targets (xs ++ x ∷ []) ≡ of_states sets targets xs ++ of_state sets targets x ∷ []
states_push sets targets xs x = map-append (of_state sets targets) xs (x ∷ [])

pub sound_push : (sets : List ByteSet) (targets : List ℕ) (xs : List declared.State) (x : declared.State) (starts : List ℕ) (n : ℕ) → AreSound sets targets xs starts n
    → IsHeld sets targets x → GoesBelow (length xs) (of_state sets targets x) → NamesBelow n (of_state sets targets x) → AreSound sets targets (xs ++ x ∷ []) starts n
sound_push sets targets xs x starts n sound held below named =
    let old = of_states sets targets xs in
    let st = of_state sets targets x in
    let len : length old ≡ length xs = length-map xs (of_state sets targets) in
    let more = length-append xs (x ∷ []) in
    let is = sym (states_push sets targets xs x) in record {
      held = held_push sets targets xs x sound.held held;
      down = λ s. subst (λ l. GoesBelow s (state l s)) is (each_pushed GoesBelow old st sound.down (subst (λ k. GoesBelow k st) (sym len) below) (λ t i lt. absurd (omega arith)) s);
      named = λ s. subst (λ l. NamesBelow n (state l s)) is (each_pushed (λ t. NamesBelow n) old st sound.named named (λ t. tt) s);
      begun = λ i lt. let before = sound.begun i lt in omega arith;
    }

-- a list that was appended behind its length
pub list_last : (xs list : List ℕ) → exits_at (xs ++ length list ∷ list) (length xs) ≡ list
list_last xs list =
    let count : slice_index (xs ++ length list ∷ list) (length xs) ≡ length list = get_or-append_seam xs (length list) list 0 in
    let cut : (xs ++ length list ∷ []) ++ list ≡ xs ++ length list ∷ list = append_assoc xs (length list ∷ []) list in
    let len : length (xs ++ length list ∷ []) ≡ length xs + 1 = length-append xs (length list ∷ []) in
    ap (λ c. slice_range (xs ++ length list ∷ list) (length xs + 1) (length xs + 1 + c)) count
    ∙ subst (λ l. slice_range l (length xs + 1) (length xs + 1 + length list) ≡ list) cut (range_last (xs ++ length list ∷ []) list (length xs + 1) (length xs + 1 + length list) (sym len) (omega (arith, len, length-append (xs ++ length list ∷ []) list)))
  where
    range_last : (ys more : List ℕ) (i j : ℕ) → i ≡ length ys → j ≡ length (ys ++ more) → slice_range (ys ++ more) i j ≡ more
    range_last ys more i j from to =
        let len = length-append ys more in
        ap (λ n. take (j - i) (drop n (ys ++ more))) from ∙ ap (take (j - i)) (drop-append_seam ys more) ∙ take_all (j - i) more (omega arith)

pub list_held : (sets : List ByteSet) (xs list : List ℕ) → IsHeld sets (xs ++ length list ∷ list) (Union (length xs))
list_held sets xs list = omega (arith, get_or-append_seam xs (length list) list 0, length-append xs (length list ∷ list))

-- the parts of an automaton, and its lists with more
module _ (m : NfaValue) (sets sets' ss : List ByteSet) (targets targets' more : List ℕ) (are : sets' ≡ sets ++ ss) (targets_are : targets' ≡ targets ++ more)
    (xs : List declared.State) (starts : List ℕ) (n : ℕ) (value : nfa sets targets xs starts n ≡ m) (sound : AreSound sets targets xs starts n) where
  same : of_states sets' targets' xs ≡ of_states sets targets xs
  same = rw (are, targets_are) (states_more sets ss targets more xs sound.held)

  -- they stay sound
  pub sound_more : AreSound sets' targets' xs starts n
  sound_more = record {
    held = rw (are, targets_are) (all_held_more sets ss targets more xs sound.held);
    down = λ s. subst (λ l. GoesBelow s (state l s)) (sym same) (sound.down s);
    named = λ s. subst (λ l. NamesBelow n (state l s)) (sym same) (sound.named s);
    begun = sound.begun;
  }

  -- the value is as it was
  pub nfa_more : nfa sets' targets' xs starts n ≡ m
  nfa_more = ap (λ l. nfa_of l starts n) same ∙ value
    where
      nfa_of : List State → List ℕ → ℕ → NfaValue
      nfa_of states starts' n' = record {
        states = states;
        starts = starts';
        index_count = n';
      }

  -- a state is pushed
  module _ (x : declared.State) (st : State) (is : of_state sets' targets' x ≡ st) where
    pub sound_with : IsHeld sets' targets' x → GoesBelow (length xs) st → NamesBelow n st → AreSound sets' targets' (xs ++ x ∷ []) starts n
    sound_with held below named =
        sound_push sets' targets' xs x starts n sound_more held (subst (GoesBelow (length xs)) (sym is) below) (subst (NamesBelow n) (sym is) named)

    pub pushes_with : (s : ℕ) → s ≡ length xs → Pushes m (nfa sets' targets' (xs ++ x ∷ []) starts n) s st
    pushes_with s at =
        let old = nfa sets targets xs starts n in
        let new = nfa sets' targets' (xs ++ x ∷ []) starts n in
        let one : new.states ≡ old.states ++ st ∷ [] = states_push sets' targets' xs x ∙ ap (λ l. l ++ of_state sets' targets' x ∷ []) same ∙ ap (λ u. of_states sets targets xs ++ u ∷ []) is in
        let number : length old.states ≡ s = length-map xs (of_state sets targets) ∙ sym at in
        subst (λ (o : NfaValue). Pushes o new s st) value (subst (λ k. Pushes old new k st) number (pushes old new st one refl refl))

pub one_below : (t n : ℕ) → t < n → AreBelow n (t ∷ [])
one_below t n lt zero within = lt
one_below t n lt (suc i) within = absurd (omega arith)

pub on_err : {T E P : Type 0} (r : Result T E) → P → OnErr r P
on_err (Ok x) p = tt
on_err (Err e) p = p
