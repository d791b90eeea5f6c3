-- The bits of a list of machine words.
use Rattle.std.specs.Prelude.{◌≡◌, ℕ, ◌/◌, ◌%◌, ◌<◌, ◌≤◌, ◌==◌, Bool, true, false, List, Option, MatchOption, slice_index}
use Rattle.std.specs.Int.{bit_at}

-- whether bit k of the words is set, counted from the lowest bit of the first word
unfoldable pub bit_of : List ℕ → ℕ → Bool
bit_of words k = bit_at (slice_index words (k / 64)) (k % 64) == 1

-- an answer about numbers: the lowest from a number on, or that there is none
abbrev pub TellsFirst : (ℕ → Bool) → ℕ → Option ℕ → Type 0
TellsFirst has from told = MatchOption told ((k : ℕ) → from ≤ k → has k ≡ false) (λ at. (from ≤ at) × (has at ≡ true) × ((k : ℕ) → from ≤ k → k < at → has k ≡ false))

-- the same of numbers below an end
abbrev pub TellsFirstBelow : (ℕ → Bool) → ℕ → ℕ → Option ℕ → Type 0
TellsFirstBelow has from end told = MatchOption told ((k : ℕ) → from ≤ k → k < end → has k ≡ false) (λ at. (from ≤ at) × (at < end) × (has at ≡ true) × ((k : ℕ) → from ≤ k → k < at → has k ≡ false))

-- the same of the bits of a number's word
abbrev pub TellsFirstInWord : (ℕ → Bool) → ℕ → Option ℕ → Type 0
TellsFirstInWord has from told = MatchOption told ((k : ℕ) → from ≤ k → k / 64 ≡ from / 64 → has k ≡ false) (λ at. (from ≤ at) × (has at ≡ true) × ((k : ℕ) → from ≤ k → k < at → has k ≡ false))

-- an answer about numbers: the highest below an end, or that there is none
abbrev pub TellsLastBelow : (ℕ → Bool) → ℕ → Option ℕ → Type 0
TellsLastBelow has end told = MatchOption told ((k : ℕ) → k < end → has k ≡ false) (λ at. (at < end) × (has at ≡ true) × ((k : ℕ) → at < k → k < end → has k ≡ false))

-- the same of the bits of a number's word, up to this number
abbrev pub TellsLastInWord : (ℕ → Bool) → ℕ → Option ℕ → Type 0
TellsLastInWord has to told = MatchOption told ((k : ℕ) → k ≤ to → k / 64 ≡ to / 64 → has k ≡ false) (λ at. (at ≤ to) × (has at ≡ true) × ((k : ℕ) → at < k → k ≤ to → has k ≡ false))
