-- Words are cleared, from the first on, whose places are set in other words.
use Rattle.std.proofs.Common.{◌≡◌, ℕ, ◌+◌, ◌/◌, ◌<◌, ◌≤◌, true, false, not, List, length, set, inl, inr, refl, sym, ap, ◌∙◌, arith}
use Rattle.std.specs.Prelude.{◌&&◌}
use Rattle.std.proofs.lemmas.Bool.{and_right, cases_eq, cases_lt}
use Rattle.bit_sets.specs.Bits.{bit_of}
use Rattle.bit_sets.proofs.lemmas.Bits.{bit_past, zeroed_here, zeroed_other}

module _ (old words places : List ℕ) (from : ℕ)
    (cleared : (k : ℕ) → k / 64 < from → bit_of words k ≡ (not (bit_of places (k / 64)) && bit_of old k))
    (kept : (k : ℕ) → from ≤ k / 64 → bit_of words k ≡ bit_of old k) where
  -- where no place is set from `from` on
  pub cleared_limit : (k : ℕ) → (from ≤ k / 64 → bit_of places (k / 64) ≡ false) → bit_of words k ≡ (not (bit_of places (k / 64)) && bit_of old k)
  cleared_limit k none =
      elim (cases_lt (k / 64) from) [
        | inl before ↦ cleared k before
        | inr low ↦ rw (none low) (kept k low)
      ]

  pub cleared_past : (k : ℕ) → length words ≡ length old → length words ≤ k / 64 → bit_of words k ≡ (not (bit_of places (k / 64)) && bit_of old k)
  cleared_past k len past =
      bit_past words k past
      ∙ sym (ap (λ q. not (bit_of places (k / 64)) && q) (bit_past old k (omega (arith, len))) ∙ and_right (not (bit_of places (k / 64))) false refl)

  pub cleared_next : (at : ℕ) → at < length words → ((i : ℕ) → from ≤ i → i < at → bit_of places i ≡ false) → bit_of places at ≡ true
      → (k : ℕ) → k / 64 < at + 1 → bit_of (set words at 0) k ≡ (not (bit_of places (k / 64)) && bit_of old k)
  cleared_next at within none is k lt =
      elim (cases_eq (k / 64) at) [
        | inl here ↦ zeroed_here words at k within here ∙ sym (ap (λ p. not p && bit_of old k) (ap (bit_of places) here ∙ is))
        | inr other ↦ zeroed_other words at k other ∙ cleared_limit k (λ low. none (k / 64) low (omega (arith, other)))
      ]

  pub kept_next : (at : ℕ) → from ≤ at → (k : ℕ) → at + 1 ≤ k / 64 → bit_of (set words at 0) k ≡ bit_of old k
  kept_next at le k past = zeroed_other words at k (omega arith) ∙ kept k (omega arith)
