-- A state that is read from the parts of an automaton.
use Rattle.std.proofs.Common.{◌≡◌, ℕ, zero, suc, ◌<◌, List, [], ◌∷◌, length, get_or, arith, ap, refl, sym, subst, ◌∙◌, Bool, false, true≢false, ◌||◌}
use Rattle.std.specs.Prelude.{◌↔◌, Option, Some, None, MatchOption}
use Rattle.std.proofs.lemmas.Bool.{or_cases}
use Rattle.std.proofs.Math.Logic.{⊎_elim}
use Rattle.byte_nfa.specs.Steps.{State, state, match_state, NfaValue, HasNumber, IsReached}
use Rattle.bit_sets.specs.Numbers.{AreBelow, has_number}
use Rattle.byte_nfa.specs.Runs.{size}
use Rattle.byte_nfa.specs.inner.Pass.{names, AcceptsNow}
use Rattle.byte_nfa.proofs.lemmas.Pass.{listed_in, in_listed, listed_below, or_first}
use Rattle.byte_nfa.specs.inner.Views.{of_state, of_states, IsHeld, AreHeld, NamesBelow, nfa}
use Rattle.bit_sets.specs.declared.byte_set.ByteSet.{ByteSet}
use Rattle.byte_nfa.specs.declared.state.State as declared

pub held_at : (sets : List ByteSet) (targets : List ℕ) (xs : List declared.State) (s : ℕ) (x : declared.State) → AreHeld sets targets xs → s < length xs → x ≡ get_or xs s x → IsHeld sets targets x
held_at sets targets [] s x h lt e = absurd (omega arith)
held_at sets targets (y ∷ ys) zero x h lt e = rw e h.0
held_at sets targets (y ∷ ys) (suc s) x h lt e = held_at sets targets ys s x h.1 (omega arith) e

-- the same of a state in the middle of a walk
pub item_held : (sets : List ByteSet) (targets : List ℕ) (xs : List declared.State) (s : ℕ) (d : declared.State) → AreHeld sets targets xs → s < length xs → IsHeld sets targets (get_or xs s d)
item_held sets targets [] s d h lt = absurd (omega arith)
item_held sets targets (y ∷ ys) zero d h lt = h.0
item_held sets targets (y ∷ ys) (suc s) d h lt = item_held sets targets ys s d h.1 (omega arith)

pub state_at : (sets : List ByteSet) (targets : List ℕ) (xs : List declared.State) (s : ℕ) (x : declared.State) → s < length xs → x ≡ get_or xs s x → state (of_states sets targets xs) s ≡ of_state sets targets x
state_at sets targets [] s x lt e = absurd (omega arith)
state_at sets targets (y ∷ ys) zero x lt e = ap (of_state sets targets) (sym e)
state_at sets targets (y ∷ ys) (suc s) x lt e = state_at sets targets ys s x (omega arith) e

-- the states that a run begins in, put into a set
pub starts_put : (m : NfaValue) (starts : List ℕ) (n : ℕ) (cleared into : ℕ → Bool) → starts ≡ m.starts → n ≡ size m → AreBelow n starts
    → ((t : ℕ) → t < n → cleared t ≡ false) → ((t : ℕ) → into t ≡ (has_number t starts || cleared t))
    → (y : List ℕ) (k : ℕ) → AcceptsNow m.states into (size m) y k ↔ IsReached m y k
starts_put m starts n cleared into is count below none has y k = (there, back)
  where
    there : AcceptsNow m.states into (size m) y k → IsReached m y k
    there (t, lt, at, h) = ⊎_elim {C = IsReached m y k}
        (λ listed. (t, subst (HasNumber t) is (listed_in t starts listed), h))
        (λ old. absurd (true≢false (sym old ∙ none t (omega arith))))
        (or_cases (has_number t starts) (cleared t) (sym (has t) ∙ at))

    back : IsReached m y k → AcceptsNow m.states into (size m) y k
    back (t, begins, h) =
        let listed = in_listed t starts (subst (HasNumber t) (sym is) begins) in
        let lt = listed_below n t starts below listed in
        (t, omega arith, has t ∙ or_first (has_number t starts) (cleared t) listed, h)

-- a state as contracts see it
pub read_state : (m : NfaValue) (sets : List ByteSet) (targets : List ℕ) (xs : List declared.State) (starts : List ℕ) (n s : ℕ) (x : declared.State)
    → nfa sets targets xs starts n ≡ m → s < length xs → x ≡ get_or xs s x → state m.states s ≡ of_state sets targets x
read_state m sets targets xs starts n s x value lt is = sym (ap (λ (o : NfaValue). state o.states s) value) ∙ state_at sets targets xs s x lt is

item_at : (sets : List ByteSet) (targets : List ℕ) (xs : List declared.State) (s : ℕ) (d : declared.State) → s < length xs → state (of_states sets targets xs) s ≡ of_state sets targets (get_or xs s d)
item_at sets targets [] s d lt = absurd (omega arith)
item_at sets targets (y ∷ ys) zero d lt = refl
item_at sets targets (y ∷ ys) (suc s) d lt = item_at sets targets ys s d (omega arith)

pub read_item : (m : NfaValue) (sets : List ByteSet) (targets : List ℕ) (xs : List declared.State) (starts : List ℕ) (n s : ℕ) (d : declared.State)
    → nfa sets targets xs starts n ≡ m → s < length xs → state m.states s ≡ of_state sets targets (get_or xs s d)
read_item m sets targets xs starts n s d value lt = sym (ap (λ (o : NfaValue). state o.states s) value) ∙ item_at sets targets xs s d lt

-- what is told of a state that is left
pub follows_epsilons : (o : Option ℕ) (n : ℕ) (st st' : State) → st ≡ st' → NamesBelow n st
    → MatchOption o ((k : ℕ) → names st' None k ≡ false) (λ k. st' ≡ match_state k)
    → MatchOption o ((k : ℕ) → names st None k ≡ false) (λ k. (st ≡ match_state k) × (k < n))
follows_epsilons (Some k) n st st' is named end = (is ∙ end, subst (NamesBelow n) (is ∙ end) named)
follows_epsilons None n st st' is named none = λ k. ap (λ u. names u None k) is ∙ none k
