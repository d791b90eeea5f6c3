use Rattle.std.proofs.Common.{◌≡◌, ℕ, ◌-◌, ◌/◌, ◌<◌, ◌≤◌, not, length}
use Rattle.std.specs.Prelude.{◌&&◌}
use Rattle.bit_sets.specs.Bits.{bit_of}
use Rattle.bit_sets.proofs.words.clear_words.Given as goal

abbrev pub invariant-loop-place : goal.invariant-loop-place
invariant-loop-place l = record {
  cleared : (k : ℕ) → k / 64 < l.from → bit_of l.words k ≡ (not (bit_of l.places (k / 64)) && bit_of l.fn.words k);
  kept : (k : ℕ) → l.from ≤ k / 64 → bit_of l.words k ≡ bit_of l.fn.words k;
}

abbrev pub decreases-loop-place : goal.decreases-loop-place
decreases-loop-place l = length l.words - l.from
