-- What runs find, and in how many visits.
use Rattle.std.proofs.Common.{ℕ, ◌+◌, ◌*◌, ◌≤◌, ◌⊎◌, inl, inr, List, [], ◌∷◌, ◌++◌, false, true≢false, arith, sym}
use Rattle.std.specs.Prelude.{◌↔◌, IsTrue}
use Rattle.std.proofs.Math.Logic.{⊎_elim}
use Rattle.std.proofs.lemmas.Nat.{mul-le}
use Rattle.bit_sets.specs.Indexes.{has_index}
use Rattle.bit_sets.specs.declared.index_set.IndexSet.{IndexSet}
use Rattle.byte_nfa.specs.Live.{MatchesAfter}
use Rattle.byte_nfa.specs.Steps.{NfaValue, IsReached}
use Rattle.engine.specs.Matching.{AddsReached}
use Rattle.engine.specs.inner.Found.{AddsSome}

-- no text goes on where none leads to an end
pub never_after : (m : NfaValue) → ((y : List ℕ) (k : ℕ) → IsReached m y k → ⊥) → (text : List ℕ) (byte : ℕ) → IsTrue false ↔ MatchesAfter m (text ++ byte ∷ [])
never_after m none text byte = (
  λ h. absurd (true≢false (sym h)),
  λ (k, rest, all, at). absurd (none ((text ++ byte ∷ []) ++ rest) k at),
)

-- ---- texts that lead to no end

pub none_added : (m : NfaValue) (y : List ℕ) (before : IndexSet) → ((k : ℕ) → IsReached m y k → ⊥) → AddsReached m y before before
none_added m y before none k = (λ old. inr old, λ h. ⊎_elim {C = IsTrue (has_index before k)} (λ at. absurd (none k at)) (λ old. old) h)

pub none_matches : (m : NfaValue) (y : List ℕ) → ((k : ℕ) → IsReached m y k → ⊥) → IsTrue false ↔ ((k : ℕ) × IsReached m y k)
none_matches m y none = (λ h. absurd (true≢false (sym h)), λ (k, at). absurd (none k at))

-- ---- runs that put some of the indexes, and others that put them all

pub adds_nothing : (m : NfaValue) (y : List ℕ) (before : IndexSet) → AddsSome m y before before
adds_nothing m y before = record { kept = λ k h. h; sound = λ k h. inr h }

pub adds_rest : (m : NfaValue) (y : List ℕ) (before between after : IndexSet) → AddsSome m y before between → AddsReached m y between after → AddsReached m y before after
adds_rest m y before between after some rest k = (
  λ h. ⊎_elim {C = IsReached m y k ⊎ IsTrue (has_index before k)} (λ at. inl at) (λ held. some.sound k held) ((rest k).0 h),
  λ h. (rest k).1 (⊎_elim {C = IsReached m y k ⊎ IsTrue (has_index between k)} (λ at. inl at) (λ old. inr (some.kept k old)) h),
)

-- ---- visits

-- at most two visits at each position, and then one for each state
pub stepped_within : (positions before between after size starts : ℕ) → between ≤ before + 2 * positions → after ≤ between + positions * size
    → 1 ≤ starts → after ≤ before + positions * (size + 3 * starts)
stepped_within positions before between after size starts looks steps some =
    let all = mul-le positions (size + 2) positions (size + 3 * starts) (omega arith) (omega (arith, some)) in
    omega (arith, looks, steps, all)
