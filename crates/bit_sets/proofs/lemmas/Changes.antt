-- Bits that are different from the next one.
use Rattle.std.proofs.Common.{◌≡◌, ℕ, zero, suc, max, ◌+◌, ◌*◌, ◌/◌, ◌%◌, ◌^◌, ◌<◌, inl, inr, ◌||◌, eqb, List, get_or, refl, ap, ◌∙◌, arith}
use Rattle.std.specs.Prelude.{bit_and, bit_or, bit_xor}
use Rattle.std.specs.Int.{bit_at}
use Rattle.std.proofs.lemmas.Bool.{cases_lt}
use Rattle.std.proofs.lemmas.Nat.Bits.{and_pow, bit_at_or, bit_at_xor, bit_at-suc, bit_at_above, bit_at_cat_low, bit_at_cat_high, bit_at_lowest, bit_at-zero, bit_at-lt}
use Rattle.bit_sets.specs.Bytes.{differ}
use Rattle.bit_sets.specs.Bits.{bit_of}
use Rattle.bit_sets.proofs.lemmas.Bits.{bit_in}

top : (next : ℕ) → bit_and next 1 * 2 ^ 63 % 2 ^ 64 ≡ bit_at next 0 * 2 ^ 63 + 0
top next =
    let one : bit_and next 1 ≡ bit_at next 0 * 2 ^ 0 = and_pow next 0 in
    let small = bit_at-lt next 0 in
    omega arith

pub change_inside : (word next i : ℕ) → i < 63 → bit_at (bit_xor word (bit_or (word / 2 ^ 1) (bit_and next 1 * 2 ^ 63 % 2 ^ 64))) i ≡ (bit_at word i + bit_at word (i + 1)) % 2
change_inside word next i lt =
    let m : ℕ = bit_or (word / 2 ^ 1) (bit_and next 1 * 2 ^ 63 % 2 ^ 64) in
    let both : bit_at m i ≡ max (bit_at (word / 2) i) (bit_at (bit_and next 1 * 2 ^ 63 % 2 ^ 64) i) = bit_at_or (word / 2) (bit_and next 1 * 2 ^ 63 % 2 ^ 64) i in
    let low : bit_at (bit_and next 1 * 2 ^ 63 % 2 ^ 64) i ≡ 0 = ap (λ x. bit_at x i) (top next) ∙ bit_at_cat_low (bit_at next 0) 63 0 i lt ∙ bit_at-zero i in
    let up : bit_at word (suc i) ≡ bit_at (word / 2) i = bit_at-suc word i in
    let is : suc i ≡ i + 1 = omega arith in
    let up' : bit_at word (i + 1) ≡ bit_at (word / 2) i = ap (bit_at word) (omega arith) ∙ up in
    let same : bit_at m i ≡ bit_at word (i + 1) = omega arith in
    bit_at_xor word m i ∙ ap (λ x. (bit_at word i + x) % 2) same

pub change_last : (word next : ℕ) → word < 2 ^ 64 → bit_at (bit_xor word (bit_or (word / 2 ^ 1) (bit_and next 1 * 2 ^ 63 % 2 ^ 64))) 63 ≡ (bit_at word 63 + bit_at next 0) % 2
change_last word next fits =
    let m : ℕ = bit_or (word / 2 ^ 1) (bit_and next 1 * 2 ^ 63 % 2 ^ 64) in
    let both : bit_at m 63 ≡ max (bit_at (word / 2) 63) (bit_at (bit_and next 1 * 2 ^ 63 % 2 ^ 64) 63) = bit_at_or (word / 2) (bit_and next 1 * 2 ^ 63 % 2 ^ 64) 63 in
    let high : bit_at (bit_and next 1 * 2 ^ 63 % 2 ^ 64) 63 ≡ bit_at (bit_at next 0) 0 = ap (λ x. bit_at x 63) (top next) ∙ bit_at_cat_high (bit_at next 0) 63 0 63 (omega arith) (omega arith) in
    let lowest = bit_at_lowest (bit_at next 0) in
    let small = bit_at-lt next 0 in
    let none : bit_at (word / 2) 63 ≡ 0 = bit_at_above (word / 2) 63 63 (omega arith) (omega arith) in
    let same : bit_at m 63 ≡ bit_at next 0 = omega arith in
    bit_at_xor word m 63 ∙ ap (λ x. (bit_at word 63 + x) % 2) same

at_bit : (P : ℕ → Type 0) → P 0 → P 1 → (n : ℕ) → n < 2 → P n
at_bit P a b zero lt = a
at_bit P a b (suc zero) lt = b
at_bit P a b (suc (suc n)) lt = absurd (omega arith)

-- a bit, and whether two others are different
one_of : (s x y : ℕ) → s < 2 → x < 2 → y < 2 → eqb (max s ((x + y) % 2)) 1 ≡ (differ (eqb x 1) (eqb y 1) || eqb s 1)
one_of s x y hs hx hy = at_bit (λ s'. eqb (max s' ((x + y) % 2)) 1 ≡ (differ (eqb x 1) (eqb y 1) || eqb s' 1))
    (at_bit (λ x'. eqb (max 0 ((x' + y) % 2)) 1 ≡ (differ (eqb x' 1) (eqb y 1) || eqb 0 1))
    (at_bit (λ y'. eqb (max 0 ((0 + y') % 2)) 1 ≡ (differ (eqb 0 1) (eqb y' 1) || eqb 0 1)) refl refl y hy)
    (at_bit (λ y'. eqb (max 0 ((1 + y') % 2)) 1 ≡ (differ (eqb 1 1) (eqb y' 1) || eqb 0 1)) refl refl y hy) x hx)
    (at_bit (λ x'. eqb (max 1 ((x' + y) % 2)) 1 ≡ (differ (eqb x' 1) (eqb y 1) || eqb 1 1))
    (at_bit (λ y'. eqb (max 1 ((0 + y') % 2)) 1 ≡ (differ (eqb 0 1) (eqb y' 1) || eqb 1 1)) refl refl y hy)
    (at_bit (λ y'. eqb (max 1 ((1 + y') % 2)) 1 ≡ (differ (eqb 1 1) (eqb y' 1) || eqb 1 1)) refl refl y hy) x hx) s hs

-- the changes of a word, put into another word
pub change_of : (set other new : List ℕ) (j b c : ℕ) → b / 64 ≡ j → get_or new j 0 ≡ bit_or (get_or set j 0) c
    → ((i : ℕ) → i < 63 → bit_at c i ≡ (bit_at (get_or other j 0) i + bit_at (get_or other j 0) (i + 1)) % 2)
    → (b % 64 ≡ 63 → bit_at c 63 ≡ (bit_at (get_or other j 0) 63 + bit_at (get_or other (j + 1) 0) 0) % 2)
    → bit_of new b ≡ (differ (bit_of other b) (bit_of other (b + 1)) || bit_of set b)
change_of set other new j b c row is inside last =
    let i : ℕ = b % 64 in
    let s : ℕ = bit_at (get_or set j 0) i in
    let x : ℕ = bit_at (get_or other j 0) i in
    let new_is : bit_of new b ≡ eqb (max s (bit_at c i)) 1 = bit_in new b j i row refl ∙ ap (λ w. eqb (bit_at w i) 1) is ∙ ap (λ y. eqb y 1) (bit_at_or (get_or set j 0) c i) in
    let set_is = bit_in set b j i row refl in
    let other_is = bit_in other b j i row refl in
    let small = bit_at-lt (get_or set j 0) i in
    let small' = bit_at-lt (get_or other j 0) i in
    elim (cases_lt i 63) [
      | inl lt ↦
          let next_is = bit_in other (b + 1) j (i + 1) (omega arith) (omega arith) in
          rw (set_is, other_is, next_is) (new_is ∙ ap (λ y. eqb (max s y) 1) (inside i lt) ∙ one_of s x (bit_at (get_or other j 0) (i + 1)) small small' (bit_at-lt (get_or other j 0) (i + 1)))
      | inr ge ↦
          let high : i ≡ 63 = omega arith in
          let next_is = bit_in other (b + 1) (j + 1) 0 (omega arith) (omega arith) in
          let last' : bit_at c i ≡ (x + bit_at (get_or other (j + 1) 0) 0) % 2 = rw high (last high) in
          rw (set_is, other_is, next_is) (new_is ∙ ap (λ y. eqb (max s y) 1) last' ∙ one_of s x (bit_at (get_or other (j + 1) 0) 0) small small' (bit_at-lt (get_or other (j + 1) 0) 0))
    ]
