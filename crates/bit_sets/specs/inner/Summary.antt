-- A summary of words: which of them have a bit.
use Rattle.std.specs.Prelude.{◌≡◌, ℕ, ◌+◌, ◌*◌, ◌/◌, ◌^◌, ◌≤◌, true, false, List, length}
use Rattle.bit_sets.specs.Bits.{bit_of}

-- The summary has a bit for each of the words, which is set exactly if a bit of the word is. The words may stand after 64 other
-- bits, and then still each bit has a number below 2 ^ 64.
pub record IsSummary (words summary : List ℕ) : Type 0 where
  pub fits : 64 * length words + 64 ≤ 2 ^ 64
  pub fits_too : 64 * length summary ≤ 2 ^ 64
  pub room : length words ≤ 64 * length summary
  pub set : (k : ℕ) → bit_of words k ≡ true → bit_of summary (k / 64) ≡ true
  pub none : (i : ℕ) → ((k : ℕ) → k / 64 ≡ i → bit_of words k ≡ false) → bit_of summary i ≡ false
