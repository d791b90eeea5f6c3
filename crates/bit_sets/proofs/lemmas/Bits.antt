-- Bits of machine words.
use Rattle.std.proofs.Common.{zero, suc, max, min, ◌++◌, ◌+◌, ◌-◌, ◌≡◌, ◌≢◌, ℕ, ◌*◌, ◌/◌, ◌%◌, ◌^◌, ◌<◌, ◌≤◌, ◌⊎◌, Bool, true, false, true≢false, not, eqb, ltb, List, length, replicate, get_or, set, refl, sym, subst, ◌∙◌, ap, inl, inr, arith, get_or-set_same, get_or-set_other, eq-eqb, ne_eqb, w64, rules}
use borrow.Rule.Slice.PartMut.{put_mid}
use Rattle.std.proofs.lemmas.List.{places, get_or_append_left, get_or-replicate, get_or_past, length-replicate}
use Rattle.std.proofs.lemmas.Bool.{cases_eq, cases_lt}
use Rattle.std.proofs.lemmas.Nat.{leading_top, and_le_l}
use Rattle.std.proofs.Math.Nat.{div-eq_of_lt-le, pow-suc}
use Rattle.std.proofs.lemmas.Nat.Bits.{bit_at_set_same, bit_at_set_other, bit_at_clear_same, bit_at_clear_other, bit_at-zero, bit_at-lt, bit_at_and, bit_at_or, bit_at_ones, bit_at_ones_above, bit_at_above, shr_and_one, ones_shr, ones_shl, bit_at_mask_inside, bit_at_mask_below, bit_at-trailing_zeros}
use Rattle.std.specs.Prelude.{bit_and, bit_or, ◌||◌, ◌&&◌}
use Rattle.std.specs.Int.{bit_at, bit_not, leading_zeros, trailing_zeros}
use Rattle.bit_sets.specs.Bits.{bit_of}

-- the test `(word >> i) & 1 == 1`
pub bit_read : (words : List ℕ) (k word : ℕ) → word ≡ get_or words (k / 64) 0 → eqb (bit_and (word / 2 ^ (k % 64)) 1) 1 ≡ bit_of words k
unfolding bit_of
bit_read words k word read = ap (λ b. eqb b 1) (shr_and_one word (k % 64)) ∙ ap (λ w. eqb (bit_at w (k % 64)) 1) read

pub bit_set : (words : List ℕ) (n word j : ℕ) → n / 64 < length words → word ≡ get_or words (n / 64) 0
    → bit_of (set words (n / 64) (bit_or word (1 * 2 ^ (n % 64) % 2 ^ 64))) j ≡ (eqb j n || bit_of words j)
unfolding bit_of
bit_set words n word j within read =
    let v : ℕ = bit_or word (1 * 2 ^ (n % 64) % 2 ^ 64) in
    let low : n % 64 < 64 = omega arith in
    elim (cases_eq j n) [
      | inl same ↦
          rw (eq-eqb j n same)
          (ap (λ x. eqb (bit_at (get_or (set words (n / 64) v) (x / 64) 0) (x % 64)) 1) same
          ∙ ap (λ x. eqb (bit_at x (n % 64)) 1) (get_or-set_same words (n / 64) v 0 within)
          ∙ eq-eqb _ 1 (bit_at_set_same w64 word (n % 64) low))
      | inr other ↦
          rw (ne_eqb j n other)
          (elim (cases_eq (j / 64) (n / 64)) [
            | inl row ↦
                ap (λ x. eqb (bit_at (get_or (set words (n / 64) v) x 0) (j % 64)) 1) row
                ∙ ap (λ x. eqb (bit_at x (j % 64)) 1) (get_or-set_same words (n / 64) v 0 within)
                ∙ ap (λ x. eqb x 1) (bit_at_set_other w64 word (n % 64) low (j % 64) (omega arith))
                ∙ ap (λ x. eqb (bit_at x (j % 64)) 1) (read ∙ ap (λ x. get_or words x 0) (sym row))
            | inr apart ↦ ap (λ x. eqb (bit_at x (j % 64)) 1) (get_or-set_other words (n / 64) (j / 64) v 0 apart)
          ])
    ]

pub bit_cleared : (words : List ℕ) (n word j : ℕ) → n / 64 < length words → word ≡ get_or words (n / 64) 0
    → bit_of (set words (n / 64) (bit_and word (bit_not w64 (1 * 2 ^ (n % 64) % 2 ^ 64)))) j ≡ (not (eqb j n) && bit_of words j)
unfolding bit_of
bit_cleared words n word j within read =
    let v : ℕ = bit_and word (bit_not w64 (1 * 2 ^ (n % 64) % 2 ^ 64)) in
    let low : n % 64 < 64 = omega arith in
    let small : j % 64 < 64 = omega arith in
    elim (cases_eq j n) [
      | inl same ↦
          rw (eq-eqb j n same)
          (ap (λ x. eqb (bit_at (get_or (set words (n / 64) v) (x / 64) 0) (x % 64)) 1) same
          ∙ ap (λ x. eqb (bit_at x (n % 64)) 1) (get_or-set_same words (n / 64) v 0 within)
          ∙ ap (λ x. eqb x 1) (bit_at_clear_same w64 word (n % 64) low))
      | inr other ↦
          rw (ne_eqb j n other)
          (elim (cases_eq (j / 64) (n / 64)) [
            | inl row ↦
                ap (λ x. eqb (bit_at (get_or (set words (n / 64) v) x 0) (j % 64)) 1) row
                ∙ ap (λ x. eqb (bit_at x (j % 64)) 1) (get_or-set_same words (n / 64) v 0 within)
                ∙ ap (λ x. eqb x 1) (bit_at_clear_other w64 word (n % 64) low (j % 64) small (omega arith))
                ∙ ap (λ x. eqb (bit_at x (j % 64)) 1) (read ∙ ap (λ x. get_or words x 0) (sym row))
            | inr apart ↦ ap (λ x. eqb (bit_at x (j % 64)) 1) (get_or-set_other words (n / 64) (j / 64) v 0 apart)
          ])
    ]

-- words of one value

pub bit_replicate : (n word k : ℕ) → k / 64 < n → bit_of (replicate n word) k ≡ eqb (bit_at word (k % 64)) 1
unfolding bit_of
bit_replicate n word k lt = ap (λ x. eqb (bit_at x (k % 64)) 1) (get_or-replicate n (k / 64) word 0 lt)

pub bit_past : (words : List ℕ) (k : ℕ) → length words ≤ k / 64 → bit_of words k ≡ false
unfolding bit_of
bit_past words k past = ap (λ x. eqb (bit_at x (k % 64)) 1) (get_or_past words (k / 64) 0 past) ∙ ap (λ x. eqb x 1) (bit_at-zero (k % 64))

pub bit_zeros : (n k : ℕ) → bit_of (replicate n 0) k ≡ false
bit_zeros n k =
    elim (cases_lt (k / 64) n) [
      | inl lt ↦ bit_replicate n 0 k lt ∙ ap (λ x. eqb x 1) (bit_at-zero (k % 64))
      | inr past ↦ bit_past (replicate n 0) k (omega (arith, length-replicate {A = ℕ} n 0))
    ]

pub bit_ones : (n k : ℕ) → k / 64 < n → bit_of (replicate n (2 ^ 64 - 1)) k ≡ true
bit_ones n k lt = bit_replicate n (2 ^ 64 - 1) k lt ∙ ap (λ x. eqb x 1) (bit_at_ones 64 (k % 64) (omega arith))

-- bit i of word `at`
pub bit_in : (words : List ℕ) (k at i : ℕ) → k / 64 ≡ at → k % 64 ≡ i → bit_of words k ≡ eqb (bit_at (get_or words at 0) i) 1
unfolding bit_of
bit_in words k at i word bit = ap (λ x. eqb (bit_at (get_or words x 0) (k % 64)) 1) word ∙ ap (λ x. eqb (bit_at (get_or words at 0) x) 1) bit

pub either_bit : (s x : ℕ) → s < 2 → x < 2 → eqb (max s x) 1 ≡ (eqb x 1 || eqb s 1)
either_bit zero zero hs hx = refl
either_bit zero (suc zero) hs hx = refl
either_bit (suc zero) zero hs hx = refl
either_bit (suc zero) (suc zero) hs hx = refl
either_bit (suc (suc s)) x hs hx = absurd (omega arith)
either_bit s (suc (suc x)) hs hx = absurd (omega arith)

-- a word with the bits of two
pub bit_joined : (set other new : List ℕ) (j k : ℕ) → k / 64 ≡ j → get_or new j 0 ≡ bit_or (get_or set j 0) (get_or other j 0) → bit_of new k ≡ (bit_of other k || bit_of set k)
bit_joined set other new j k row is =
    let i : ℕ = k % 64 in
    let s : ℕ = get_or set j 0 in
    let x : ℕ = get_or other j 0 in
    rw (bit_in set k j i row refl, bit_in other k j i row refl)
    (bit_in new k j i row refl ∙ ap (λ w. eqb (bit_at w i) 1) is ∙ ap (λ y. eqb y 1) (bit_at_or s x i) ∙ either_bit (bit_at s i) (bit_at x i) (bit_at-lt s i) (bit_at-lt x i))

pub zero_bit : (b : ℕ) → b ≡ 0 → eqb b 1 ≡ false
zero_bit b e = ap (λ x. eqb x 1) e

pub one_bit : (b : ℕ) → b ≡ 1 → eqb b 1 ≡ true
one_bit b e = ap (λ x. eqb x 1) e

-- the mask of the bits up to r
module _ (word r : ℕ) (low : r < 64) where
  unfoldable pub masked : ℕ
  masked = bit_and word (18446744073709551615 / 2 ^ (63 - r))

  mask_is : 18446744073709551615 / 2 ^ (63 - r) ≡ 2 ^ (r + 1) - 1
  mask_is = let e : 64 - (63 - r) ≡ r + 1 = omega arith in ones_shr 64 (63 - r) (omega arith) ∙ ap (λ k. 2 ^ k - 1) e

  pub kept_bit : (i : ℕ) → i ≤ r → bit_at masked i ≡ bit_at word i
  unfolding masked
  kept_bit i le =
      let bit = bit_at-lt word i in
      rw mask_is (bit_at_and word (2 ^ (r + 1) - 1) i ∙ (let one = bit_at_ones (r + 1) i (omega arith) in omega arith))

  pub cut_bit : (i : ℕ) → r < i → bit_at masked i ≡ 0
  unfolding masked
  cut_bit i lt = rw mask_is (bit_at_and word (2 ^ (r + 1) - 1) i ∙ (let none = bit_at_ones_above (r + 1) i (omega arith) in omega arith))

-- nothing is set in the mask
pub none_up_to : (words : List ℕ) (to word : ℕ) → word ≡ get_or words (to / 64) 0
    → bit_and word (18446744073709551615 / 2 ^ (63 - to % 64)) ≡ 0
    → (k : ℕ) → k ≤ to → k / 64 ≡ to / 64 → bit_of words k ≡ false
unfolding masked
none_up_to words to word read nil k high row =
    let r : ℕ = to % 64 in
    let at : ℕ = to / 64 in
    let small : r < 64 = omega arith in
    let le : k % 64 ≤ r = omega arith in
    bit_in words k at (k % 64) row refl
    ∙ ap (λ x. eqb (bit_at x (k % 64)) 1) (sym read)
    ∙ zero_bit (bit_at word (k % 64)) (sym (kept_bit word r small (k % 64) le) ∙ ap (λ x. bit_at x (k % 64)) nil ∙ bit_at-zero (k % 64))

-- the highest bit that is set up to a bit
abbrev pub IsTop : List ℕ → ℕ → ℕ → Type 0
IsTop words to at = (at ≤ to) × (bit_of words at ≡ true) × ((k : ℕ) → at < k → k ≤ to → bit_of words k ≡ false)

-- the highest bit of the mask
pub top_up_to : (words : List ℕ) (to word : ℕ) → word ≡ get_or words (to / 64) 0 → word < 2 ^ 64
    → 0 < bit_and word (18446744073709551615 / 2 ^ (63 - to % 64))
    → IsTop words to (to / 64 * 64 + (63 - leading_zeros w64 (bit_and word (18446744073709551615 / 2 ^ (63 - to % 64)))))
unfolding masked
top_up_to words to word read fits more =
    let r : ℕ = to % 64 in
    let at : ℕ = to / 64 in
    let small : r < 64 = omega arith in
    let m : ℕ = masked word r small in
    let within : m < 2 ^ 64 = omega (arith, and_le_l word (18446744073709551615 / 2 ^ (63 - r))) in
    let (j, len, lo, hi) = leading_top 64 m more within in
    let top : bit_at m j ≡ 1 = ap (λ q. q % 2) (div-eq_of_lt-le {k = 1} (2 ^ j) {m = m} (omega arith) (omega (arith, pow-suc 2 j))) in
    let le : j ≤ r = elim (cases_lt r j) [
      | inl past ↦ (let none : bit_at m j ≡ 0 = cut_bit word r small j past in absurd (omega arith))
      | inr le ↦ le
    ] in
    let same : at * 64 + j ≡ at * 64 + (63 - leading_zeros w64 m) = omega arith in
    subst (IsTop words to) same (
      omega arith,
      bit_in words (at * 64 + j) at j (omega arith) (omega arith) ∙ ap (λ x. eqb (bit_at x j) 1) (sym read) ∙ one_bit (bit_at word j) (sym (kept_bit word r small j le) ∙ top),
      λ k low high.
          let row : k / 64 ≡ at = omega arith in
          let up : suc j ≤ k % 64 = omega arith in
          let up_to : k % 64 ≤ r = omega arith in
          bit_in words k at (k % 64) row refl
          ∙ ap (λ x. eqb (bit_at x (k % 64)) 1) (sym read)
          ∙ zero_bit (bit_at word (k % 64)) (sym (kept_bit word r small (k % 64) up_to) ∙ bit_at_above m (suc j) (k % 64) hi up),
    )

-- the words from `at` on, of which the first is seen through a mask that has the bits from `from` on
module _ (words : List ℕ) (from at word mask : ℕ) (read : word ≡ get_or words at 0)
    (kept : (i : ℕ) → i < 64 → from ≤ at * 64 + i → bit_at mask i ≡ 1)
    (none : (i : ℕ) → i < 64 → at * 64 + i < from → bit_at mask i ≡ 0)
    (between : (k : ℕ) → from ≤ k → k < at * 64 → bit_of words k ≡ false) where
  pub none_from : bit_and word mask ≡ 0 → (k : ℕ) → from ≤ k → k < (at + 1) * 64 → bit_of words k ≡ false
  none_from empty k low high =
      elim (cases_lt k (at * 64)) [
        | inl before ↦ between k low before
        | inr here ↦
            let row : k / 64 ≡ at = omega arith in
            let one = kept (k % 64) (omega arith) (omega arith) in
            let both = bit_at_and word mask (k % 64) in
            let nil : bit_at (bit_and word mask) (k % 64) ≡ 0 = ap (λ x. bit_at x (k % 64)) empty ∙ bit_at-zero (k % 64) in
            let small = bit_at-lt word (k % 64) in
            bit_in words k at (k % 64) row refl ∙ ap (λ x. eqb (bit_at x (k % 64)) 1) (sym read) ∙ zero_bit (bit_at word (k % 64)) (omega arith)
      ]

  pub lowest_from : 0 < bit_and word mask → word < 2 ^ 64
      → (trailing_zeros w64 (bit_and word mask) < 64)
      × (from ≤ at * 64 + trailing_zeros w64 (bit_and word mask))
      × (bit_of words (at * 64 + trailing_zeros w64 (bit_and word mask)) ≡ true)
      × ((k : ℕ) → from ≤ k → k < at * 64 + trailing_zeros w64 (bit_and word mask) → bit_of words k ≡ false)
  lowest_from more fits =
      let m : ℕ = bit_and word mask in
      let (lt, top, below) = bit_at-trailing_zeros w64 m more (omega (arith, and_le_l word mask)) in
      let z : ℕ = trailing_zeros w64 m in
      let both : bit_at m z ≡ min (bit_at word z) (bit_at mask z) = bit_at_and word mask z in
      let small = bit_at-lt word z in
      let small' = bit_at-lt mask z in (
        lt,
        elim (cases_lt (at * 64 + z) from) [ inl cut ↦ (let nil = none z lt cut in absurd (omega arith)) | inr le ↦ le ],
        bit_in words (at * 64 + z) at z (omega arith) (omega arith) ∙ ap (λ x. eqb (bit_at x z) 1) (sym read) ∙ one_bit (bit_at word z) (omega arith),
        λ k low high. elim (cases_lt k (at * 64)) [
          | inl before ↦ between k low before
          | inr here ↦
              let row : k / 64 ≡ at = omega arith in
              let i : ℕ = k % 64 in
              let one = kept i (omega arith) (omega arith) in
              let both' : bit_at m i ≡ min (bit_at word i) (bit_at mask i) = bit_at_and word mask i in
              let nil : bit_at m i ≡ 0 = below i (omega arith) in
              let tiny = bit_at-lt word i in
              bit_in words k at i row refl ∙ ap (λ x. eqb (bit_at x i) 1) (sym read) ∙ zero_bit (bit_at word i) (omega arith)
        ],
      )

-- the mask of the bits from r on
pub high_mask : (r : ℕ) → r < 64 → 18446744073709551615 * 2 ^ r % 2 ^ 64 ≡ 2 ^ 64 - 2 ^ r
high_mask r low = ones_shl 64 r (omega arith)

pub high_kept : (r i : ℕ) → r < 64 → i < 64 → r ≤ i → bit_at (18446744073709551615 * 2 ^ r % 2 ^ 64) i ≡ 1
high_kept r i low small le = rw (high_mask r low) (bit_at_mask_inside r 64 i le small)

pub high_cut : (r i : ℕ) → r < 64 → i < r → bit_at (18446744073709551615 * 2 ^ r % 2 ^ 64) i ≡ 0
high_cut r i low lt = rw (high_mask r low) (bit_at_mask_below r 64 i lt)

pub or_false : (q : Bool) → (q || false) ≡ q
or_false true = refl
or_false false = refl

pub bit_front : (xs ys : List ℕ) (k : ℕ) → k / 64 < length xs → bit_of (xs ++ ys) k ≡ bit_of xs k
unfolding bit_of
bit_front xs ys k lt = ap (λ x. eqb (bit_at x (k % 64)) 1) (get_or_append_left xs ys 0 (k / 64) lt)

pub none_yet : (k : ℕ) (q : Bool) → false ≡ (ltb k 0 && q)
none_yet k q = grind arith

-- n words from `a` on are set to zero

pub cleared_inside : (words : List ℕ) (a n k : ℕ) → a + n ≤ length words → 0 < n → a ≤ k / 64 → k / 64 < a + n → bit_of (put_mid a n words (replicate n 0)) k ≡ false
unfolding bit_of
cleared_inside words a n k within some low high =
    let zeros : List ℕ = replicate n 0 in
    let len : length zeros ≡ n = length-replicate {A = ℕ} n 0 in
    let there : get_or (put_mid a n words zeros) (k / 64) 0 ≡ get_or zeros (k / 64 - a) 0 = search (rules, places) in
    let zero : get_or (put_mid a n words zeros) (k / 64) 0 ≡ 0 = there ∙ get_or-replicate n (k / 64 - a) 0 0 (omega arith) in
    ap (λ x. eqb (bit_at x (k % 64)) 1) zero ∙ ap (λ x. eqb x 1) (bit_at-zero (k % 64))

kept_outside : (words : List ℕ) (a n k : ℕ) → a + n ≤ length words → ((k / 64 < a) ⊎ (a + n ≤ k / 64)) → bit_of (put_mid a n words (replicate n 0)) k ≡ bit_of words k
unfolding bit_of
kept_outside words a n k within outside =
    let zeros : List ℕ = replicate n 0 in
    let len : length zeros ≡ n = length-replicate {A = ℕ} n 0 in
    let there : get_or (put_mid a n words zeros) (k / 64) 0 ≡ get_or words (k / 64) 0 = elim outside [
      | inl before ↦ search (rules, places)
      | inr after ↦ search (rules, places)
    ] in
    ap (λ x. eqb (bit_at x (k % 64)) 1) there

pub cleared_outside : (words : List ℕ) (a n k : ℕ) → a + n ≤ length words → 0 < n → bit_of (put_mid a n words (replicate n 0)) k ≡ true → bit_of words k ≡ true
cleared_outside words a n k within some bit =
    elim (cases_lt (k / 64) a) [
      | inl before ↦ sym (kept_outside words a n k within (inl before)) ∙ bit
      | inr low ↦
          elim (cases_lt (k / 64) (a + n)) [
            | inl high ↦ absurd (true≢false (sym bit ∙ cleared_inside words a n k within some low high))
            | inr after ↦ sym (kept_outside words a n k within (inr after)) ∙ bit
          ]
    ]

-- a word is set to zero

pub zeroed_here : (words : List ℕ) (n k : ℕ) → n < length words → k / 64 ≡ n → bit_of (set words n 0) k ≡ false
unfolding bit_of
zeroed_here words n k within here =
    ap (λ x. eqb (bit_at (get_or (set words n 0) x 0) (k % 64)) 1) here
    ∙ ap (λ x. eqb (bit_at x (k % 64)) 1) (get_or-set_same words n 0 0 within)
    ∙ ap (λ x. eqb x 1) (bit_at-zero (k % 64))

pub zeroed_other : (words : List ℕ) (n k : ℕ) → k / 64 ≢ n → bit_of (set words n 0) k ≡ bit_of words k
unfolding bit_of
zeroed_other words n k other = ap (λ x. eqb (bit_at x (k % 64)) 1) (get_or-set_other words n (k / 64) 0 0 other)

-- words of zeros are added

pub bit_grown : (words : List ℕ) (n k : ℕ) → bit_of (words ++ replicate n 0) k ≡ bit_of words k
unfolding bit_of
bit_grown words n k =
    elim (cases_lt (k / 64) (length words)) [
      | inl lt ↦ bit_front words (replicate n 0) k lt
      | inr past ↦
          let there : get_or (words ++ replicate n 0) (k / 64) 0 ≡ get_or (replicate n 0) (k / 64 - length words) 0 = search (rules, places) in
          let zero : get_or (replicate n 0) (k / 64 - length words) 0 ≡ get_or words (k / 64) 0 =
          elim (cases_lt (k / 64 - length words) n) [
            | inl lt ↦ get_or-replicate n (k / 64 - length words) 0 0 lt ∙ sym (get_or_past words (k / 64) 0 past)
            | inr end ↦ get_or_past (replicate n 0) (k / 64 - length words) 0 (omega (arith, length-replicate {A = ℕ} n 0)) ∙ sym (get_or_past words (k / 64) 0 past)
          ] in
          ap (λ x. eqb (bit_at x (k % 64)) 1) (there ∙ zero)
    ]
