-- A summary of words, and the bits of the words.
use Rattle.std.proofs.Common.{◌≡◌, ℕ, ◌+◌, ◌*◌, ◌/◌, ◌^◌, ◌<◌, ◌≤◌, inl, inr, Bool, true, false, true≢false, List, length, refl, sym, ◌∙◌, arith}
use Rattle.std.specs.Prelude.{not, ◌&&◌}
use Rattle.std.proofs.lemmas.Bool.{cases_lt}
use Rattle.bit_sets.specs.Bits.{bit_of}
use Rattle.bit_sets.specs.inner.Summary.{IsSummary}
use Rattle.bit_sets.proofs.lemmas.Bits.{bit_past}

-- one whose bit is set is one of the words
pub word_within : (words summary : List ℕ) → IsSummary words summary → (i : ℕ) → bit_of summary i ≡ true → i < length words
word_within words summary is i on =
    elim (cases_lt i (length words)) [
      | inl lt ↦ lt
      | inr past ↦ absurd (true≢false (sym on ∙ is.none i (λ k at. bit_past words k (omega (arith, at, past)))))
    ]

cleared : (p q : Bool) → (q ≡ true → p ≡ true) → (not p && q) ≡ false
cleared true q h = refl
cleared false true h = absurd (true≢false (sym (h refl)))
cleared false false h = refl

-- a word of which a bit is set is one of those that are cleared
pub all_cleared : (words summary : List ℕ) → IsSummary words summary → (k : ℕ) → (not (bit_of summary (k / 64)) && bit_of words k) ≡ false
all_cleared words summary is k = cleared (bit_of summary (k / 64)) (bit_of words k) (is.set k)

-- no bit is set
pub summary_none : (words summary : List ℕ) → 64 * length words + 64 ≤ 2 ^ 64 → 64 * length summary ≤ 2 ^ 64 → length words ≤ 64 * length summary
    → ((k : ℕ) → bit_of words k ≡ false) → ((i : ℕ) → bit_of summary i ≡ false) → IsSummary words summary
summary_none words summary fits fits' room off off' = record {
  fits = fits;
  fits_too = fits';
  room = room;
  set = λ k bit. absurd (true≢false (sym bit ∙ off k));
  none = λ i h. off' i;
}
