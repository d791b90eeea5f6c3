use Rattle.std.proofs.Common.{◌≡◌, ℕ, false, true≢false, refl, sym, ◌∙◌, [], arith}
use Rattle.bit_sets.specs.Bits.{bit_of}
use Rattle.bit_sets.proofs.lemmas.Bits.{bit_past}
use Rattle.bit_sets.proofs.state_set.StateSet.empty.Goals as goal

pub invariant_of-result : goal.invariant_of-result
invariant_of-result c =
    let none : (k : ℕ) → bit_of c.new.result.items k ≡ false = λ k. rw c.new.ensures.items (bit_past [] k (omega arith)) in
    record {
      bounds = record {
        low = λ k bit. absurd (true≢false (sym bit ∙ none k));
        high = λ k bit. absurd (true≢false (sym bit ∙ none k));
        within = λ le. absurd (omega (arith, le));
        none = λ lt. refl;
      };
    }
