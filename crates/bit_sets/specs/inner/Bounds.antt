-- Where the bits of a list of machine words lie.
use Rattle.std.specs.Prelude.{◌≡◌, ℕ, ◌*◌, ◌<◌, ◌≤◌, true, List, length}
use Rattle.bit_sets.specs.Bits.{bit_of}

-- No bit is set below the first number or above the last. If the first is not above the last, the last is a bit of the
-- words; otherwise no bit is set, and the last is 0.
pub record AreBounds (words : List ℕ) (first last : ℕ) : Type 0 where
  pub low : (k : ℕ) → bit_of words k ≡ true → first ≤ k
  pub high : (k : ℕ) → bit_of words k ≡ true → k ≤ last
  pub within : first ≤ last → last < 64 * length words
  pub none : last < first → last ≡ 0
