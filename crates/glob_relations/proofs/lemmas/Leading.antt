-- States from which a text may lead to an end.
use Rattle.std.proofs.Common.{◌≡◌, ℕ, zero, suc, ◌+◌, ◌<◌, ◌≤◌, inl, inr, Bool, List, [], ◌∷◌, ◌++◌, length, IsTrue, refl, ap, sym, subst, ◌∙◌, arith, length-append}
use Rattle.std.specs.Prelude.{◌==◌, Contains}
use Rattle.std.proofs.lemmas.Bool.{cases_lt, eqb-true, or_cases}
use Rattle.std.proofs.Math.Logic.{⊎_elim}
use Rattle.bit_sets.specs.Numbers.{has_number}
use Rattle.byte_nfa.specs.Steps.{State, bytes_state, union_state, loop_state, match_state, state, HasNumber, Accepts, ends, by_byte, by_skip, by_out, by_stay, NfaValue}
use Rattle.glob_relations.specs.declared.rows.SearchRow.{SearchRow}
use Rattle.glob_relations.specs.declared.search.Question.{Question}
use Rattle.glob_relations.specs.inner.Leading.{mark, LeadsOn, AreLeading}
use Rattle.glob_relations.specs.inner.Rows.{WantsRow}

-- from a state without a true mark no text leads to an end
module _ (m : NfaValue) (k : ℕ) (marks : List Bool) (are : AreLeading m k marks) where
  leads : (s : ℕ) (y : List ℕ) → Accepts m.states k s y → IsTrue (mark marks s)
  leads s y (ends s' is) = are s (subst (LeadsOn k marks) (sym is) refl)
  leads s y (by_byte s' t c z w is has h) = are s (subst (LeadsOn k marks) (sym is) (leads t z h))
  leads s y (by_skip s' t z ts is at h) = are s (subst (LeadsOn k marks) (sym is) (t, at, leads t z h))
  leads s y (by_out s' t z w ts is at h) = are s (subst (LeadsOn k marks) (sym is) (t, at, leads t z h))
  leads s y (by_stay s' c z w ts is has h) = leads s z h

pub number_contained : (t : ℕ) (xs : List ℕ) → IsTrue (has_number t xs) → Contains xs t
number_contained t [] h = absurd cc
number_contained t (x ∷ xs) h = ⊎_elim {C = Contains (x ∷ xs) t}
    (λ this. (0, omega arith, sym (eqb-true t x this)))
    (λ other. let (i, lt, is) = number_contained t xs other in (suc i, omega arith, is))
    (or_cases (t == x) (has_number t xs) h)

-- nothing is wanted from a row whose states all have the mark false
pub dead_row : (m : NfaValue) (n : Question) (marks : List Bool) (row : SearchRow) (y : List ℕ) → 0 < n.required → AreLeading m 0 marks → ((t : ℕ) → Contains row.states.items t → IsTrue (mark marks t) → ⊥) → WantsRow m n row y → ⊥
dead_row m n marks row y some are none (ends', (all, last), clear) =
    let (t, at, h) = all 0 some in
    none t (number_contained t row.states.items at) (leads m 0 marks are t y h)

mark_before : (marks : List Bool) (b : Bool) (t : ℕ) → IsTrue (mark (marks ++ b ∷ []) t) → IsTrue (mark marks t)
mark_before [] b zero h = refl
mark_before [] b (suc t) h = refl
mark_before (x ∷ marks) b zero h = h
mark_before (x ∷ marks) b (suc t) h = mark_before marks b t h

mark_kept : (marks : List Bool) (b : Bool) (t : ℕ) → t < length marks → IsTrue (mark marks t) → IsTrue (mark (marks ++ b ∷ []) t)
mark_kept [] b t lt h = absurd (omega arith)
mark_kept (x ∷ marks) b zero lt h = h
mark_kept (x ∷ marks) b (suc t) lt h = mark_kept marks b t (omega arith) h

mark_last : (marks : List Bool) (b : Bool) → mark (marks ++ b ∷ []) (length marks) ≡ b
mark_last [] b = refl
mark_last (x ∷ marks) b = mark_last marks b

leads_before : (k : ℕ) (marks : List Bool) (b : Bool) (st : State) → LeadsOn k (marks ++ b ∷ []) st → LeadsOn k marks st
leads_before k marks b (bytes_state w t) h = mark_before marks b t h
leads_before k marks b (union_state ts) (t, at, h) = (t, at, mark_before marks b t h)
leads_before k marks b (loop_state w ts) (t, at, h) = (t, at, mark_before marks b t h)
leads_before k marks b (match_state j) h = h

-- the marks of the first states
abbrev pub AreLeadingTo : NfaValue → ℕ → List Bool → ℕ → Type 0
AreLeadingTo m k marks n = (length marks ≡ n) × ((s : ℕ) → s < n → LeadsOn k marks (state m.states s) → IsTrue (mark marks s))

pub leading_more : (m : NfaValue) (k : ℕ) (marks : List Bool) (n : ℕ) (b : Bool) → AreLeadingTo m k marks n → (LeadsOn k marks (state m.states n) → IsTrue b) → (new : List Bool) → new ≡ marks ++ b ∷ []
    → AreLeadingTo m k new (n + 1)
leading_more m k marks n b (len, are) here new is = subst (λ (xs : List Bool). AreLeadingTo m k xs (n + 1)) (sym is) (
  length-append marks (b ∷ []) ∙ ap (λ x. x + 1) len,
  λ s lt on. ⊎_elim {C = IsTrue (mark (marks ++ b ∷ []) s)}
      (λ low. mark_kept marks b s (omega arith) (are s low (leads_before k marks b (state m.states s) on)))
      (λ high. let same : n ≡ s = omega arith in subst (λ x. IsTrue (mark (marks ++ b ∷ []) x)) (len ∙ same)
      (mark_last marks b ∙ here (leads_before k marks b (state m.states n) (subst (λ x. LeadsOn k (marks ++ b ∷ []) (state m.states x)) (sym same) on))))
      (cases_lt s n),
)

mark_past : (marks : List Bool) (s : ℕ) → length marks ≤ s → IsTrue (mark marks s)
mark_past [] s le = refl
mark_past (x ∷ marks) zero le = absurd (omega arith)
mark_past (x ∷ marks) (suc s) le = mark_past marks s (omega arith)

pub leading_all : (m : NfaValue) (k : ℕ) (marks : List Bool) (n : ℕ) → AreLeadingTo m k marks n → AreLeading m k marks
leading_all m k marks n (len, are) s on = ⊎_elim {C = IsTrue (mark marks s)} (λ low. are s low on) (λ past. mark_past marks s (omega arith)) (cases_lt s n)
