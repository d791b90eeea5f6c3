use Rattle.std.proofs.Common.{◌/◌, ◌%◌, ◌+◌, ◌*◌, get_or, slice_index, refl, sym, ap, ◌∙◌, arith, true≢false, w64}
use Rattle.std.specs.Int.{bit_at, trailing_ones}
use Rattle.std.proofs.lemmas.Nat.Bits.{bit_at_ones, bit_at-trailing_ones}
use Rattle.bit_sets.proofs.lemmas.Bits.{bit_in, zero_bit, one_bit}
use Rattle.bit_sets.proofs.byte_set.ByteSet.is_everything.Goals as goal

pub returns-then-self-i : goal.returns-then-self-i
returns-then-self-i c =
    let words = c.args.self.now.words in
    let i = c.loop-i.i in
    let word = slice_index words i in
    let (low, zero, ones) = bit_at-trailing_ones w64 word (omega (arith, c.type_inv.self)) in
    let k = i * 64 + trailing_ones w64 word in
    let none = bit_in words k i (trailing_ones w64 word) (omega arith) (omega arith) ∙ zero_bit (bit_at word (trailing_ones w64 word)) zero in
    (λ no. absurd (true≢false (sym no)), λ every. absurd (true≢false (sym (every k (omega arith)) ∙ none)))

pub returns : goal.returns
returns c =
    let words = c.args.self.now.words in (
      λ _ b lt. bit_in words b (b / 64) (b % 64) refl refl ∙ one_bit (bit_at (get_or words (b / 64) 0) (b % 64))
          (ap (λ w. bit_at w (b % 64)) (c.loop-i.invariant (b / 64) (omega arith)) ∙ bit_at_ones 64 (b % 64) (omega arith)),
      λ _. refl,
    )
