use Rattle.std.proofs.Common.{◌≡◌, ◌≤◌, ◌<◌, ◌*◌, ◌+◌, ◌-◌, ℕ, false, length}
use Rattle.std.specs.Int.{bit_at}
use Rattle.bit_sets.specs.Bits.{bit_of}
use Rattle.bit_sets.proofs.words.first_from.Given as goal

abbrev pub invariant-loop-at : goal.invariant-loop-at
invariant-loop-at l = record {
  past : l.from < (l.at + 1) * 64;
  kept : (i : ℕ) → i < 64 → l.from ≤ l.at * 64 + i → bit_at l.mask i ≡ 1;
  none : (i : ℕ) → i < 64 → l.at * 64 + i < l.from → bit_at l.mask i ≡ 0;
  between : (k : ℕ) → l.from ≤ k → k < l.at * 64 → bit_of l.words k ≡ false;
}

abbrev pub decreases-loop-at : goal.decreases-loop-at
decreases-loop-at l = length l.words - l.at
