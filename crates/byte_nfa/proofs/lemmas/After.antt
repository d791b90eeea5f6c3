-- What is found after a text, whatever follows it.
use Rattle.std.proofs.Common.{◌≡◌, ℕ, zero, suc, ◌+◌, ◌-◌, ◌<◌, ◌==◌, inl, inr, true, false, true≢false, List, [], ◌∷◌, ◌++◌, length, slice_index, append-nil, IsTrue, refl, sym, subst, ◌∙◌, arith}
use Rattle.std.specs.Prelude.{◌↔◌}
use Rattle.std.proofs.lemmas.Bool.{cases_lt, eqb-true, eq-eqb, or_cases}
use Rattle.std.proofs.Math.Logic.{⊎_elim}
use Rattle.bit_sets.specs.Numbers.{has_number, AreBelow}
use Rattle.bit_sets.specs.StateSets.{has_state}
use Rattle.bit_sets.specs.Texts.{AllBytes}
use Rattle.bit_sets.specs.declared.state_set.StateSet.{StateSet}
use Rattle.bit_sets.proofs.lemmas.Texts.{both_bytes, front_bytes}
use Rattle.byte_nfa.proofs.lemmas.EarlyMatches.{decided_small}
use Rattle.byte_nfa.proofs.lemmas.Live.{after_byte}
use Rattle.byte_nfa.proofs.lemmas.Pass.{iff_trans, or_first, or_second}
use Rattle.byte_nfa.specs.EarlyMatches.{IsAtEarlyMatch, EndsAtEarlyMatches, half, FindsBy}
use Rattle.byte_nfa.specs.Live.{AreLive, MatchesAfter}
use Rattle.byte_nfa.specs.Runs.{size, AcceptsIn}
use Rattle.byte_nfa.specs.Steps.{NfaValue, state, match_state, Accepts, IsReached, ends, by_byte, by_skip, by_out, by_stay}
use Rattle.byte_nfa.proofs.lemmas.Finding.{found_is, at_dead, at_quiet, some_last, some_same}

-- an item of a list
pub has_number_at : (list : List ℕ) (n : ℕ) → n < length list → IsTrue (has_number (slice_index list n) list)
has_number_at [] n lt = absurd (omega (arith, lt))
has_number_at (x ∷ xs) zero lt = or_first (x == x) (has_number x xs) (eq-eqb x x refl)
has_number_at (x ∷ xs) (suc n) lt = or_second (slice_index xs n == x) (has_number (slice_index xs n) xs) (has_number_at xs n (omega (arith, lt)))

pub number_place : (t : ℕ) (list : List ℕ) → IsTrue (has_number t list) → (n : ℕ) × (n < length list) × (slice_index list n ≡ t)
number_place t [] at = absurd (true≢false (sym at))
number_place t (x ∷ xs) at = ⊎_elim {C = (n : ℕ) × (n < length (x ∷ xs)) × (slice_index (x ∷ xs) n ≡ t)}
    (λ same. (0, omega arith, sym (eqb-true t x same)))
    (λ rest. let (n, lt, is) = number_place t xs rest in (suc n, omega (arith, lt), is))
    (or_cases (t == x) (has_number t xs) at)

module _ (m : NfaValue) (live : StateSet) (are : AreLive m live) (list : List ℕ) (below : AreBelow (size m) list) where
  -- a live state is in the list
  pub some_live : (n : ℕ) → n < length list → IsTrue (has_state live (slice_index list n)) → (k : ℕ) × (y : List ℕ) × AllBytes y × AcceptsIn m list y k
  some_live n lt has = let (k, y, all, a) = (are (slice_index list n) (below n lt)).0 has in (k, y, all, (slice_index list n, has_number_at list n lt, a))

  -- none is
  pub none_live : ((n : ℕ) → n < length list → has_state live (slice_index list n) ≡ false) → (k : ℕ) × (y : List ℕ) × AllBytes y × AcceptsIn m list y k → ⊥
  none_live none (k, y, all, (t, at, a)) =
      let (n, lt, is) = number_place t list at in
      let lives = (are (slice_index list n) (below n lt)).1 (k, y, all, subst (λ s. Accepts m.states k s y) (sym is) a) in
      true≢false (sym lives ∙ none n lt)

-- each index of the automaton with early matches is below twice the old number
pub index_below : (old m : NfaValue) → EndsAtEarlyMatches old m → (k s : ℕ) (y : List ℕ) → Accepts m.states k s y → k < half m + half m
index_below old m made k s y (ends s' e) = ended (made.states s)
  where
    ended : IsAtEarlyMatch old.states old.index_count s (state m.states s) → k < half m + half m
    ended (inl (j, decides, f)) =
        let both : match_state k ≡ match_state (old.index_count + j) = sym e ∙ f in
        let is : k ≡ old.index_count + j = cc in
        let lt = decided_small old.states old.index_count made.below s j decides in
        let two = made.index_count in
        omega arith
    ended (inr (none, f)) = let lt = made.below s k (sym f ∙ e) in let two = made.index_count in omega arith
index_below old m made k s y (by_byte s' t c z w e has rest) = index_below old m made k t z rest
index_below old m made k s y (by_skip s' t z ts e at rest) = index_below old m made k t z rest
index_below old m made k s y (by_out s' t z w ts e at rest) = index_below old m made k t z rest
index_below old m made k s y (by_stay s' c z w ts e has rest) = index_below old m made k s z rest

-- some bytes, by the same facts
pub some_after : {A B : List ℕ → ℕ → Type 0} → ((y : List ℕ) (k : ℕ) → A y k ↔ B y k) → ((k : ℕ) × (y : List ℕ) × AllBytes y × A y k) ↔ ((k : ℕ) × (y : List ℕ) × AllBytes y × B y k)
some_after same = (λ (k, y, all, a). (k, y, all, (same y k).0 a), λ (k, y, all, b). (k, y, all, (same y k).1 b))

-- some bytes lead to an end exactly if some index is found by some bytes
pub live_finds : (n : ℕ) (P : List ℕ → ℕ → Type 0) → ((y : List ℕ) (k : ℕ) → P y k → k < n + n)
    → ((k : ℕ) × (y : List ℕ) × AllBytes y × P y k) ↔ ((k : ℕ) × (y : List ℕ) × AllBytes y × FindsBy n P y k)
live_finds n P below = (there, back)
  where
    there : (k : ℕ) × (y : List ℕ) × AllBytes y × P y k → (k : ℕ) × (y : List ℕ) × AllBytes y × FindsBy n P y k
    there (k, y, all, a) = ⊎_elim {C = (k : ℕ) × (y : List ℕ) × AllBytes y × FindsBy n P y k}
        (λ low. (k, y, all, (low, inl a)))
        (λ high. let lt = below y k a in let is : k ≡ n + (k - n) = omega arith in
        (k - n, y, all, (omega arith, inr (y, [], sym (append-nil y), subst (P y) is a))))
        (cases_lt k n)

    back : (k : ℕ) × (y : List ℕ) × AllBytes y × FindsBy n P y k → (k : ℕ) × (y : List ℕ) × AllBytes y × P y k
    back (k, y, all, (lt, inl a)) = (k, y, all, a)
    back (k, y, all, (lt, inr (p, q, e, a))) = (n + k, p, front_bytes p q (subst AllBytes e all), a)

-- what the automaton with early matches finds after a text, the other automaton matches
pub after_is : (old m : NfaValue) → EndsAtEarlyMatches old m → (text : List ℕ) (byte : ℕ) → AllBytes text → byte < 256
    → ((k : ℕ) × (y : List ℕ) × AllBytes y × FindsBy (half m) (IsReached m) (text ++ byte ∷ y) k) ↔ MatchesAfter old (text ++ byte ∷ [])
after_is old m made text byte bytes small = (
  λ (k, y, all, h). (k, y, all, subst (λ z. IsReached old z k) (sym (after_byte text y byte)) ((found_is old m made (text ++ byte ∷ y) (both_bytes text (byte ∷ y) bytes (small, all)) k).0 h)),
  λ (k, y, all, r). (k, y, all, (found_is old m made (text ++ byte ∷ y) (both_bytes text (byte ∷ y) bytes (small, all)) k).1 (subst (λ z. IsReached old z k) (after_byte text y byte) r)),
)

-- what a call answers, where a text leads to the decision of an index, to nothing, or to what finds the rest
module _ (n : ℕ) (P : List ℕ → ℕ → Type 0) (text : List ℕ) where
  pub decided_end : ((z : List ℕ) → (k : ℕ) × FindsBy n P (text ++ z) k) → IsTrue true ↔ ((k : ℕ) × FindsBy n P text k)
  decided_end finds = let (k, found) = finds [] in (λ _. (k, subst (λ y. FindsBy n P y k) (append-nil text) found), λ _. refl)

  pub nothing_end : ((z : List ℕ) (k : ℕ) → FindsBy n P (text ++ z) k → ⊥) → IsTrue false ↔ ((k : ℕ) × FindsBy n P text k)
  nothing_end none = (λ off. absurd (true≢false (sym off)), λ (k, finds). absurd (none [] k (subst (λ y. FindsBy n P y k) (sym (append-nil text)) finds)))

  pub decided_after : (b : ℕ) → ((z : List ℕ) → (k : ℕ) × FindsBy n P (text ++ z) k) → IsTrue true ↔ ((k : ℕ) × (y : List ℕ) × AllBytes y × FindsBy n P (text ++ b ∷ y) k)
  decided_after b finds = let (k, found) = finds (b ∷ []) in (λ _. (k, [], tt, found), λ _. refl)

  pub nothing_after : (b : ℕ) → ((z : List ℕ) (k : ℕ) → FindsBy n P (text ++ z) k → ⊥) → IsTrue false ↔ ((k : ℕ) × (y : List ℕ) × AllBytes y × FindsBy n P (text ++ b ∷ y) k)
  nothing_after b none = (λ off. absurd (true≢false (sym off)), λ (k, y, all, found). absurd (none (b ∷ y) k found))

  module _ (Q : List ℕ → ℕ → Type 0) (finds : (z : List ℕ) (k : ℕ) → FindsBy n Q z k ↔ FindsBy n P (text ++ z) k) where
    pub row_end : ((k : ℕ) × (k < n + n) × Q [] k) ↔ ((k : ℕ) × FindsBy n P text k)
    row_end = iff_trans (some_last n Q) (some_same (λ k. subst (λ y. FindsBy n Q [] k ↔ FindsBy n P y k) (append-nil text) (finds [] k)))

    pub marked_after : (b : ℕ) → ((k : ℕ) × (k < n) × Q [] (n + k)) → IsTrue true ↔ ((k : ℕ) × (y : List ℕ) × AllBytes y × FindsBy n P (text ++ b ∷ y) k)
    marked_after b (k, low, a) = (λ _. (k, [], tt, (finds (b ∷ []) k).0 (low, inr ([], b ∷ [], refl, a))), λ _. refl)

    module _ (b : ℕ) (none : (k : ℕ) → k < n → Q [] (n + k) → ⊥) where
      pub dead_after : ((y : List ℕ) (k : ℕ) → Q (b ∷ y) k → ⊥) → IsTrue false ↔ ((k : ℕ) × (y : List ℕ) × AllBytes y × FindsBy n P (text ++ b ∷ y) k)
      dead_after dead = (
        λ off. absurd (true≢false (sym off)),
        λ (k, y, all, found). let (low, a) = (at_dead n Q b dead y k).0 ((finds (b ∷ y) k).1 found) in absurd (none k low a),
      )

      pub row_after : (R : List ℕ → ℕ → Type 0) → ((y : List ℕ) (k : ℕ) → Q (b ∷ y) k ↔ R y k) → ((y : List ℕ) (k : ℕ) → R y k → k < n + n)
          → ((k : ℕ) × (y : List ℕ) × AllBytes y × R y k) ↔ ((k : ℕ) × (y : List ℕ) × AllBytes y × FindsBy n P (text ++ b ∷ y) k)
      row_after R goes below = iff_trans (live_finds n R below) (some_after (λ y k. iff_trans (at_quiet n Q R b goes none y k) (finds (b ∷ y) k)))
