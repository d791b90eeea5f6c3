-- A word, and the words after it.
use Rattle.std.proofs.Common.{◌≡◌, ℕ, ◌+◌, ◌-◌, ◌/◌, ◌%◌, ◌<◌, ◌≤◌, true, false, true≢false, List, ◌++◌, length, get_or, eqb, inl, inr, sym, ap, ◌∙◌, arith, eq-eqb, ne_eqb}
use Rattle.std.specs.Prelude.{◌||◌, ◌==◌}
use Rattle.std.specs.Int.{bit_at}
use Rattle.std.proofs.lemmas.Bool.{cases_lt, cases_eq}
use Rattle.std.proofs.lemmas.List.{get_or-append_right}
use Rattle.bit_sets.specs.Bits.{bit_of}
use Rattle.bit_sets.proofs.lemmas.Bits.{bit_front, bit_past}

-- a bit of the first word
pub in_first : (first rest : List ℕ) (k : ℕ) → length first ≡ 1 → k < 64 → bit_of (first ++ rest) k ≡ bit_of first k
in_first first rest k one low = bit_front first rest k (omega (arith, one, low))

-- a bit of the words after it
pub in_rest : (first rest : List ℕ) (k : ℕ) → length first ≡ 1 → 64 ≤ k → bit_of (first ++ rest) k ≡ bit_of rest (k - 64)
unfolding bit_of
in_rest first rest k one high =
    let word : k / 64 - 1 ≡ (k - 64) / 64 = omega arith in
    let bit : k % 64 ≡ (k - 64) % 64 = omega arith in
    ap (λ w. eqb (bit_at w (k % 64)) 1) (get_or-append_right first rest 1 (k / 64) 0 one (omega (arith, high)) ∙ ap (λ i. get_or rest i 0) word)
    ∙ ap (λ i. eqb (bit_at (get_or rest ((k - 64) / 64) 0) i) 1) bit

-- both have the same bits as others
pub same_bits : (first rest first' rest' : List ℕ) → length first ≡ 1 → length first' ≡ 1 → ((k : ℕ) → bit_of first k ≡ bit_of first' k)
    → ((k : ℕ) → bit_of rest k ≡ bit_of rest' k) → (k : ℕ) → bit_of (first ++ rest) k ≡ bit_of (first' ++ rest') k
same_bits first rest first' rest' one one' same same' k =
    elim (cases_lt k 64) [
      | inl low ↦ in_first first rest k one low ∙ same k ∙ sym (in_first first' rest' k one' low)
      | inr high ↦ in_rest first rest k one high ∙ same' (k - 64) ∙ sym (in_rest first' rest' k one' high)
    ]

-- neither has a bit
pub no_bits : (first rest : List ℕ) → length first ≡ 1 → ((k : ℕ) → bit_of first k ≡ false) → ((k : ℕ) → bit_of rest k ≡ false) → (k : ℕ) → bit_of (first ++ rest) k ≡ false
no_bits first rest one none none' k =
    elim (cases_lt k 64) [
      | inl low ↦ in_first first rest k one low ∙ none k
      | inr high ↦ in_rest first rest k one high ∙ none' (k - 64)
    ]

-- a bit of the first word is set
pub first_set : (first rest new : List ℕ) (n : ℕ) → length first ≡ 1 → length new ≡ 1 → n < 64 → ((k : ℕ) → bit_of new k ≡ ((k == n) || bit_of first k))
    → (k : ℕ) → bit_of (new ++ rest) k ≡ ((k == n) || bit_of (first ++ rest) k)
first_set first rest new n one one' lt set k =
    elim (cases_lt k 64) [
      | inl low ↦ in_first new rest k one' low ∙ set k ∙ ap (λ b. (k == n) || b) (sym (in_first first rest k one low))
      | inr high ↦
          let other : (k == n) ≡ false = ne_eqb k n (λ e. absurd (omega (arith, e, lt, high))) in
          rw other (in_rest new rest k one' high ∙ sym (in_rest first rest k one high))
    ]

-- a bit of the words after it is set
pub rest_set : (first rest new : List ℕ) (n : ℕ) → length first ≡ 1 → 64 ≤ n → ((k : ℕ) → bit_of new k ≡ ((k == (n - 64)) || bit_of rest k))
    → (k : ℕ) → bit_of (first ++ new) k ≡ ((k == n) || bit_of (first ++ rest) k)
rest_set first rest new n one le set k =
    elim (cases_lt k 64) [
      | inl low ↦
          let other : (k == n) ≡ false = ne_eqb k n (λ e. absurd (omega (arith, e, le, low))) in
          rw other (in_first first new k one low ∙ sym (in_first first rest k one low))
      | inr high ↦
          let same : (k - 64 == n - 64) ≡ (k == n) = elim (cases_eq k n) [
            | inl e ↦ eq-eqb (k - 64) (n - 64) (ap (λ x. x - 64) e) ∙ sym (eq-eqb k n e)
            | inr ne ↦ ne_eqb (k - 64) (n - 64) (λ e. ne (omega (arith, e, high, le))) ∙ sym (ne_eqb k n ne)
          ] in
          in_rest first new k one high ∙ set (k - 64) ∙ ap (λ b. b || bit_of rest (k - 64)) same ∙ ap (λ b. (k == n) || b) (sym (in_rest first rest k one high))
    ]

-- the lowest bit from a number on is in the first word
pub found_first : (first rest : List ℕ) (from at : ℕ) → length first ≡ 1 → from ≤ at → bit_of first at ≡ true → ((k : ℕ) → from ≤ k → k < at → bit_of first k ≡ false)
    → (from ≤ at) × (bit_of (first ++ rest) at ≡ true) × ((k : ℕ) → from ≤ k → k < at → bit_of (first ++ rest) k ≡ false)
found_first first rest from at one le is between =
    let low : at < 64 = elim (cases_lt at 64) [
      | inl lt ↦ lt
      | inr past ↦ absurd (true≢false (sym is ∙ bit_past first at (omega (arith, one, past))))
    ] in (
      le,
      in_first first rest at one low ∙ is,
      λ k from_on lt. in_first first rest k one (omega (arith, lt, low)) ∙ between k from_on lt,
    )

-- the first word has no bit from a number on
module _ (first rest : List ℕ) (from start : ℕ) (one : length first ≡ 1) (is : start ≡ from - 64) (none : (k : ℕ) → from ≤ k → k < 64 → bit_of first k ≡ false) where
  -- nor do the words after it
  pub none_found : ((k : ℕ) → start ≤ k → bit_of rest k ≡ false) → (k : ℕ) → from ≤ k → bit_of (first ++ rest) k ≡ false
  none_found none' k le =
      elim (cases_lt k 64) [
        | inl low ↦ in_first first rest k one low ∙ none k le low
        | inr high ↦ in_rest first rest k one high ∙ none' (k - 64) (omega (arith, is, le, high))
      ]

  -- the lowest bit is in the words after it
  pub found_rest : (at : ℕ) → start ≤ at → bit_of rest at ≡ true → ((k : ℕ) → start ≤ k → k < at → bit_of rest k ≡ false)
      → (from ≤ at + 64) × (bit_of (first ++ rest) (at + 64) ≡ true) × ((k : ℕ) → from ≤ k → k < at + 64 → bit_of (first ++ rest) k ≡ false)
  found_rest at le on between =
      let same : at + 64 - 64 ≡ at = omega arith in (
        omega (arith, is, le),
        in_rest first rest (at + 64) one (omega arith) ∙ ap (bit_of rest) same ∙ on,
        λ k from_on lt. elim (cases_lt k 64) [
          | inl low ↦ in_first first rest k one low ∙ none k from_on low
          | inr high ↦ in_rest first rest k one high ∙ between (k - 64) (omega (arith, is, from_on, high)) (omega (arith, lt, high))
        ],
      )
