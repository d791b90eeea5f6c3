-- Where rows lead by a byte, and from the start.
use Rattle.std.proofs.Common.{◌≡◌, ℕ, zero, suc, ◌+◌, ◌<◌, ◌≤◌, List, [], ◌∷◌, length, IsTrue, refl, sym, subst, ◌∙◌, arith}
use Rattle.std.specs.Prelude.{◌↔◌, slice_index, slice_index_or}
use Rattle.std.proofs.lemmas.Bool.{cases_lt}
use Rattle.std.proofs.lemmas.Option.{slice_get_within}
use Rattle.std.proofs.Math.Logic.{⊎_elim}
use Rattle.bit_sets.specs.Numbers.{has_number}
use Rattle.bit_sets.specs.StateSets.{has_state}
use Rattle.bit_sets.specs.declared.state_set.StateSet.{StateSet}
use Rattle.byte_nfa.specs.Runs.{size, AcceptsFrom}
use Rattle.byte_nfa.specs.Steps.{NfaValue, IsReached}
use Rattle.byte_nfa.proofs.lemmas.Pass.{iff_trans}
use Rattle.glob_relations.specs.declared.rows.SearchRows.{SearchRows}
use Rattle.glob_relations.specs.declared.search.Question.{Question}
use Rattle.glob_relations.specs.inner.Rows.{AcceptsIn, AreAlike, AreRepresentatives, IsFollowed, IsFollowedBy, KeepsRows}
use Rattle.glob_relations.proofs.lemmas.Classes.{wants_alike}
use Rattle.glob_relations.proofs.lemmas.Indexes.{at_any}
use Rattle.glob_relations.proofs.lemmas.Passes.{accepts_listed}
use Rattle.glob_relations.proofs.lemmas.Rows.{get_some, followed_kept}

module _ (m : NfaValue) (set : StateSet) (count : ℕ) (same : count ≡ size m) (list : List ℕ) (has : (t : ℕ) → IsTrue (has_number t list) ↔ ((t < count) × IsTrue (has_state set t))) where
  listed : (y : List ℕ) (k : ℕ) → AcceptsFrom m set y k ↔ AcceptsIn m list y k
  listed = accepts_listed m set list (λ t. subst (λ (c : ℕ). IsTrue (has_number t list) ↔ ((t < c) × IsTrue (has_state set t))) same (has t))

  -- the states in which paths begin
  pub first_accepts : ((y : List ℕ) (k : ℕ) → AcceptsFrom m set y k ↔ IsReached m y k) → (y : List ℕ) (k : ℕ) → AcceptsIn m list y k ↔ IsReached m y k
  first_accepts starts y k = (λ h. (starts y k).0 ((listed y k).1 h), λ h. (listed y k).0 ((starts y k).1 h))

  -- the states that a byte leads to
  pub next_accepts : (states : List ℕ) (b : ℕ) → ((y : List ℕ) (k : ℕ) → AcceptsIn m states (b ∷ y) k ↔ AcceptsFrom m set y k) → (y : List ℕ) (k : ℕ) → AcceptsIn m states (b ∷ y) k ↔ AcceptsIn m list y k
  next_accepts states b steps y k = iff_trans (steps y k) (listed y k)

pub kept_within : (old new : SearchRows) (i : ℕ) → KeepsRows old new → i < length old.seen.keys → i < length new.seen.keys
kept_within old new i keeps lt =
    let (row, at) = get_some old.seen.keys i lt in
    slice_get_within new.seen.keys i row (keeps.0 i row at)

module _ (m : NfaValue) (n : Question) (number : ℕ) (bytes : List ℕ) where
  -- one byte more of a list
  pub followed_more : (old new : SearchRows) (i : ℕ) → KeepsRows old new → number < length old.seen.keys → ((j : ℕ) → j < i → IsFollowedBy m n old number (slice_index bytes j))
      → IsFollowedBy m n new number (slice_index bytes i) → (j : ℕ) → j < i + 1 → IsFollowedBy m n new number (slice_index bytes j)
  followed_more old new i keeps lt before here j below = ⊎_elim {C = IsFollowedBy m n new number (slice_index bytes j)}
      (λ low. followed_kept m n old new number (slice_index bytes j) keeps lt (before j low))
      (λ high. let is : i ≡ j = omega arith in subst (λ (x : ℕ). IsFollowedBy m n new number (slice_index bytes x)) is here)
      (cases_lt j i)

  -- all of them
  pub followed_all : (rows : SearchRows) (i : ℕ) → length bytes ≤ i → AreRepresentatives m bytes → ((j : ℕ) → j < i → IsFollowedBy m n rows number (slice_index bytes j)) → IsFollowed m n rows number
  followed_all rows i all are each c lt row at y wants =
      let (b, (j, within, is), alike) = are c lt in
      let same : slice_index bytes j ≡ b = at_any bytes j b within ∙ is in
      each j (omega arith) row at y (wants_alike m n row (slice_index bytes j) c y (subst (λ (x : ℕ). AreAlike m x c) (sym same) alike) wants)
