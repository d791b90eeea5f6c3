use Rattle.std.proofs.Common.{◌*◌, ◌%◌, refl, arith}
use Rattle.std.proofs.lemmas.Nat.Bits.{bit_at_ones}
use Rattle.bit_sets.proofs.lemmas.Bits.{none_from, lowest_from, high_kept, high_cut, bit_past}
use Rattle.std.proofs.lemmas.Bool.{cases_lt}
use Rattle.std.proofs.Common.{inl, inr}
use Rattle.bit_sets.proofs.words.first_from.Goals as goal

pub loop-at-init : goal.loop-at-init
loop-at-init c = record {
  past = omega arith;
  kept = λ i small le. high_kept (c.args.from % 64) i (omega arith) small (omega arith);
  none = λ i small lt. high_cut (c.args.from % 64) i (omega arith) (omega arith);
  between = λ k low high. absurd (omega arith);
}

pub returns-then-word-ne0 : goal.returns-then-word-ne0
returns-then-word-ne0 c =
    let inv = c.loop-at.invariant in
    let (lt, le, is, below) = lowest_from c.args.words.now c.args.from c.loop-at.at _ c.loop-at.mask refl inv.kept inv.none inv.between (omega arith) (omega (arith, c.type_inv.words c.loop-at.at)) in
    (le, is, below)

pub loop-at-preserved : goal.loop-at-preserved
loop-at-preserved c =
    let inv = c.loop-at.invariant in record {
      past = omega arith;
      kept = λ i small le. bit_at_ones 64 i small;
      none = λ i small lt. absurd (omega arith);
      between = none_from c.args.words.now c.args.from c.loop-at.at _ c.loop-at.mask refl inv.kept inv.none inv.between c.if-word-ne0.false;
    }

pub returns : goal.returns
returns c = λ k low. elim (cases_lt k (c.loop-at.at * 64)) [
  | inl before ↦ c.loop-at.invariant.between k low before
  | inr past ↦ bit_past c.args.words.now k (omega arith)
]
