use Rattle.std.proofs.Common.{◌≡◌, ℕ, false, true≢false, refl, replicate, sym, ◌∙◌, arith}
use Rattle.std.proofs.Math.Seq.{take-nil}
use Rattle.std.proofs.Math.Nat.{sub-zero}
use Rattle.bit_sets.specs.Bits.{bit_of}
use Rattle.bit_sets.proofs.lemmas.Bits.{bit_zeros}
use Rattle.bit_sets.proofs.state_set.StateSet.new.Goals as goal

pub invariant_of-result : goal.invariant_of-result
invariant_of-result c =
    let zeros : c.resize.new.self.items ≡ replicate c.words_for.result 0 =
    let e = c.in_ok-resize.ensures.items in simp (c.new-words.ensures.items, c.new-words.ensures.len, take-nil, sub-zero) at e in
    let none : (k : ℕ) → bit_of c.resize.new.self.items k ≡ false = λ k. rw zeros (bit_zeros c.words_for.result k) in
    record {
      bounds = record {
        low = λ k bit. absurd (true≢false (sym bit ∙ none k));
        high = λ k bit. absurd (true≢false (sym bit ∙ none k));
        within = λ le. absurd (omega (arith, le));
        none = λ lt. refl;
      };
    }
