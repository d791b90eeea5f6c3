use Rattle.std.proofs.Common.{◌≡◌, ℕ, false, List, [], ◌∷◌, length, refl, ap, arith}
use Rattle.bit_sets.specs.Bits.{bit_of}
use Rattle.bit_sets.proofs.lemmas.Bits.{bit_past, bit_zeros}
use Rattle.bit_sets.proofs.lemmas.Summaries.{summary_none}
use Rattle.bit_sets.proofs.lemmas.FirstWord.{no_bits}
use Rattle.bit_sets.proofs.index_set.IndexSet.empty.Goals as goal

no_bit : (words : List ℕ) → words ≡ [] → (k : ℕ) → bit_of words k ≡ false
no_bit words is k = bit_past words k (omega (arith, ap length is))

pub invariant_of-result : goal.invariant_of-result
invariant_of-result c =
    let words = c.new.result.items in
    let summary = c.new-2.result.items in
    let none = ap length c.new.ensures.items in
    let none' = ap length c.new-2.ensures.items in
    record {
      one = refl;
      summed = summary_none words summary (omega (arith, none)) (omega (arith, none')) (omega (arith, none)) (no_bit words c.new.ensures.items) (no_bit summary c.new-2.ensures.items);
    }

pub returns-clause-none : goal.returns-clause-none
returns-clause-none c = no_bits (0 ∷ []) c.new.result.items refl (bit_zeros 1) (no_bit c.new.result.items c.new.ensures.items)
