use Rattle.std.proofs.Common.{◌-◌, ◌++◌, inl, inr, true≢false, sym, ap, ◌∙◌, arith}
use Rattle.std.proofs.lemmas.Bool.{cases_lt}
use Rattle.bit_sets.specs.Bits.{bit_of}
use Rattle.bit_sets.specs.Indexes.{index_capacity}
use Rattle.bit_sets.proofs.lemmas.Bits.{bit_past}
use Rattle.bit_sets.proofs.lemmas.FirstWord.{in_first, in_rest}
use Rattle.bit_sets.proofs.index_set.IndexSet.has.Goals as goal

pub returns-then-index-lt64 : goal.returns-then-index-lt64
returns-then-index-lt64 c =
    let set = c.args.self.now in
    c.has_bit.ensures ∙ sym (in_first set.first set.rest.items c.args.index set.one c.if-index-lt64.true)

pub returns-then-has_capacity_for : goal.returns-then-has_capacity_for
returns-then-has_capacity_for c =
    let set = c.args.self.now in
    c.has_bit-then-has_capacity_for.ensures ∙ ap (λ words. bit_of words (c.args.index - 64)) c.deref.ensures.value
    ∙ sym (in_rest set.first set.rest.items c.args.index set.one c.if-index-lt64.false)

pub returns : goal.returns
returns c =
    let set = c.args.self.now in
    elim (cases_lt c.args.index (index_capacity set)) [
      | inl lt ↦ absurd (true≢false (sym (c.has_capacity_for.ensures.1 lt) ∙ c.if-has_capacity_for.false))
      | inr past ↦ sym (bit_past (set.first ++ set.rest.items) c.args.index (omega (arith, past)))
    ]
