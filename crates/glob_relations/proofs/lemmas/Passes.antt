-- States of sets and of lists.
use Rattle.std.proofs.Common.{◌≡◌, ℕ, ◌<◌, ◌⊎◌, inl, inr, Bool, true, false, ◌||◌, true≢false, List, [], IsTrue, refl, sym, ◌∙◌}
use Rattle.std.specs.Prelude.{◌↔◌, not}
use Rattle.std.proofs.Math.Logic.{⊎_elim}
use Rattle.std.proofs.lemmas.Bool.{or_cases}
use Rattle.bit_sets.specs.Indexes.{has_index}
use Rattle.bit_sets.specs.declared.index_set.IndexSet.{IndexSet}
use Rattle.bit_sets.specs.Numbers.{has_number}
use Rattle.bit_sets.specs.StateSets.{has_state}
use Rattle.bit_sets.specs.declared.state_set.StateSet.{StateSet}
use Rattle.byte_nfa.specs.Runs.{size, AcceptsFrom}
use Rattle.byte_nfa.specs.Steps.{NfaValue}
use Rattle.byte_nfa.proofs.lemmas.Pass.{or_first, accepts_within}
use Rattle.glob_relations.specs.inner.Rows.{AcceptsIn, IsWantedBy}

-- the states of a set are listed
pub accepts_listed : (m : NfaValue) (set : StateSet) (list : List ℕ) → ((t : ℕ) → IsTrue (has_number t list) ↔ ((t < size m) × IsTrue (has_state set t)))
    → (y : List ℕ) (k : ℕ) → AcceptsFrom m set y k ↔ AcceptsIn m list y k
accepts_listed m set list has y k = (
  λ (t, lt, at, h). (t, (has t).1 (lt, at), h),
  λ (t, at, h). let (lt, in') = (has t).0 at in (t, lt, in', h),
)

-- the states of a list were put into an empty set
pub accepts_loaded : (m : NfaValue) (empty set : StateSet) (list : List ℕ) → ((t : ℕ) → has_state empty t ≡ false) → ((t : ℕ) → has_state set t ≡ (has_number t list || has_state empty t))
    → (y : List ℕ) (k : ℕ) → AcceptsIn m list y k ↔ AcceptsFrom m set y k
accepts_loaded m empty set list none has y k = (
  λ (t, at, h). (t, accepts_within m.states k t y h, has t ∙ or_first (has_number t list) (has_state empty t) at, h),
  λ (t, lt, at, h). (t, listed t (or_cases (has_number t list) (has_state empty t) (sym (has t) ∙ at)), h),
)
  where
    listed : (t : ℕ) → IsTrue (has_number t list) ⊎ IsTrue (has_state empty t) → IsTrue (has_number t list)
    listed t (inl at) = at
    listed t (inr at) = absurd (true≢false (sym at ∙ none t))

-- what is wanted of indexes, where each is reached exactly if it is in other words
pub wanted_iff : (n : ℕ) (P Q : ℕ → Type 0) → ((k : ℕ) → P k ↔ Q k) → IsWantedBy n P ↔ IsWantedBy n Q
wanted_iff n P Q same = (
  λ (all, none). (λ k lt. (same k).0 (all k lt), λ q. none ((same n).1 q)),
  λ (all, none). (λ k lt. (same k).1 (all k lt), λ p. none ((same n).0 p)),
)

-- the ends of the states of a list were put into an empty set
pub ends_reached : (m : NfaValue) (list : List ℕ) (set : StateSet) (empty ends : IndexSet) → ((y : List ℕ) (k : ℕ) → AcceptsIn m list y k ↔ AcceptsFrom m set y k) → ((k : ℕ) → has_index empty k ≡ false)
    → ((k : ℕ) → IsTrue (has_index ends k) ↔ (AcceptsFrom m set [] k ⊎ IsTrue (has_index empty k))) → (k : ℕ) → IsTrue (has_index ends k) ↔ AcceptsIn m list [] k
ends_reached m list set empty ends same none are k = (
  λ at. ⊎_elim {C = AcceptsIn m list [] k} (λ h. (same [] k).1 h) (λ old. absurd (true≢false (sym old ∙ none k))) ((are k).0 at),
  λ h. (are k).1 (inl ((same [] k).0 h)),
)

-- all indexes below n are there, and the next is looked for
pub wanted_last : (n : ℕ) (has : ℕ → Bool) (P : ℕ → Type 0) (all last : Bool) → all ≡ true → IsTrue all ↔ ((k : ℕ) → k < n → IsTrue (has k)) → last ≡ has n → ((k : ℕ) → IsTrue (has k) ↔ P k)
    → IsTrue (not last) ↔ IsWantedBy n P
wanted_last n has P all last full tells is same = (there last is, λ (each, none). back last is none)
  where
    there : (z : Bool) → z ≡ has n → IsTrue (not z) → IsWantedBy n P
    there true at off = absurd (true≢false (sym off))
    there false at off = (λ k lt. (same k).0 (tells.0 full k lt), λ h. true≢false (sym ((same n).1 h) ∙ sym at))

    back : (z : Bool) → z ≡ has n → (P n → ⊥) → IsTrue (not z)
    back true at none = absurd (none ((same n).0 (sym at)))
    back false at none = refl

-- some index below n is not there
pub unwanted : (n : ℕ) (has : ℕ → Bool) (P : ℕ → Type 0) (all : Bool) → all ≡ false → IsTrue all ↔ ((k : ℕ) → k < n → IsTrue (has k)) → ((k : ℕ) → IsTrue (has k) ↔ P k) → IsTrue all ↔ IsWantedBy n P
unwanted n has P all no_all tells same = (
  λ yes. absurd (true≢false (sym yes ∙ no_all)),
  λ (each, none). tells.1 (λ k lt. (same k).1 (each k lt)),
)
