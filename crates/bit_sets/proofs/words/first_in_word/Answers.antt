use Rattle.std.proofs.Common.{◌/◌, ◌%◌, refl, arith}
use Rattle.bit_sets.proofs.lemmas.Bits.{none_from, lowest_from, high_kept, high_cut, bit_past}
use Rattle.bit_sets.proofs.words.first_in_word.Goals as goal

pub returns-then-at-words : goal.returns-then-at-words
returns-then-at-words c = λ k low here. bit_past c.args.words.now k (omega arith)

pub returns-then-word-eq0 : goal.returns-then-word-eq0
returns-then-word-eq0 c = λ k low here.
    none_from c.args.words.now c.args.from (c.args.from / 64) _ _ refl
    (λ i small le. high_kept (c.args.from % 64) i (omega arith) small (omega arith))
    (λ i small lt. high_cut (c.args.from % 64) i (omega arith) (omega arith))
    (λ j le lt. absurd (omega arith)) c.if-word-eq0.true k low (omega arith)

pub returns : goal.returns
returns c =
    let (lt, le, is, below) =
    lowest_from c.args.words.now c.args.from (c.args.from / 64) _ _ refl
    (λ i small le. high_kept (c.args.from % 64) i (omega arith) small (omega arith))
    (λ i small lt. high_cut (c.args.from % 64) i (omega arith) (omega arith))
    (λ j le lt. absurd (omega arith)) (omega arith) (omega (arith, c.type_inv.words (c.args.from / 64))) in
    (le, is, below)
