use Rattle.std.proofs.Common.{inl, inr, refl, arith}
use Rattle.std.proofs.lemmas.Bool.{cases_lt}
use Rattle.bit_sets.proofs.lemmas.Bits.{bit_joined, bit_past}
use Rattle.bit_sets.proofs.byte_set.ByteSet.with_all.Goals as goal

pub returns : goal.returns
returns c = λ k.
    let set = c.args.self.words in
    let other = c.args.other.now.words in
    elim (cases_lt k 64) [
      | inl first ↦ bit_joined set other _ 0 k (omega arith) refl
      | inr past ↦ elim (cases_lt k 128) [
        | inl second ↦ bit_joined set other _ 1 k (omega arith) refl
        | inr past' ↦ elim (cases_lt k 192) [
          | inl third ↦ bit_joined set other _ 2 k (omega arith) refl
          | inr past'' ↦ elim (cases_lt k 256) [
            | inl last ↦ bit_joined set other _ 3 k (omega arith) refl
            | inr none ↦
                let a = c.type_inv.other in
                rw (bit_past set k (omega arith), bit_past other k (omega arith)) (bit_past _ k (omega arith))
          ]
        ]
      ]
    ]
