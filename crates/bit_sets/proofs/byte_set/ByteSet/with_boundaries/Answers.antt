use Rattle.std.proofs.Common.{inl, inr, refl, arith}
use Rattle.std.proofs.lemmas.Bool.{cases_lt}
use Rattle.bit_sets.proofs.lemmas.Changes.{change_of}
use Rattle.bit_sets.proofs.byte_set.ByteSet.with_boundaries.Goals as goal

pub returns : goal.returns
returns c = λ b lt.
    let set = c.args.self.words in
    let other = c.args.other.now.words in
    elim (cases_lt b 64) [
      | inl first ↦ change_of set other _ 0 b c.changes.result (omega arith) refl c.changes.ensures.inside (λ _. c.changes.ensures.last)
      | inr past ↦ elim (cases_lt b 128) [
        | inl second ↦ change_of set other _ 1 b c.changes-2.result (omega arith) refl c.changes-2.ensures.inside (λ _. c.changes-2.ensures.last)
        | inr past' ↦ elim (cases_lt b 192) [
          | inl third ↦ change_of set other _ 2 b c.changes-3.result (omega arith) refl c.changes-3.ensures.inside (λ _. c.changes-3.ensures.last)
          | inr last ↦ change_of set other _ 3 b c.changes-4.result (omega arith) refl c.changes-4.ensures.inside (λ e. absurd (omega arith))
        ]
      ]
    ]
