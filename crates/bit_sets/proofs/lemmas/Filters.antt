-- The numbers below a number that pass a test.
use Rattle.std.proofs.Common.{◌≡◌, ℕ, zero, suc, ◌+◌, ◌<◌, ◌≤◌, ◌-◌, List, [], ◌∷◌, ◌++◌, append-nil, length, Bool, true, false, cond, refl, ap, sym, ◌∙◌, arith}
use Rattle.std.specs.Prelude.{filter}
use Rattle.std.specs.List.{range_with_len}
use Rattle.std.proofs.lemmas.List.Elements.{filter-append}
use Rattle.std.proofs.lemmas.List.{length-append}

-- ---- consecutive numbers

range_more : (a n : ℕ) → range_with_len a (suc n) ≡ range_with_len a n ++ (a + n) ∷ []
range_more a zero = let e : a ≡ a + 0 = omega arith in ap (λ (j : ℕ). j ∷ []) e
range_more a (suc n) = let e : a + 1 + n ≡ a + suc n = omega arith in
    ap (λ (xs : List ℕ). a ∷ xs) (range_more (a + 1) n ∙ ap (λ (j : ℕ). range_with_len (a + 1) n ++ j ∷ []) e)

-- the numbers below n + 1 that pass a test: those below n, and n if it passes
pub filter_more : (test : ℕ → Bool) (n : ℕ) → filter test (range_with_len 0 (n + 1)) ≡ filter test (range_with_len 0 n) ++ cond (test n) (n ∷ []) []
filter_more test n =
    let e : n + 1 ≡ suc n = omega arith in let z : 0 + n ≡ n = omega arith in
    ap (λ (j : ℕ). filter test (range_with_len 0 j)) e ∙ ap (filter test) (range_more 0 n) ∙ filter-append test (range_with_len 0 n) ((0 + n) ∷ [])
    ∙ ap (λ (j : ℕ). filter test (range_with_len 0 n) ++ cond (test j) (j ∷ []) []) z

-- the number n passes, and was pushed onto the list
pub index_kept : (test : ℕ → Bool) (n : ℕ) (xs ys : List ℕ) → xs ≡ filter test (range_with_len 0 n) → test n ≡ true → ys ≡ xs ++ n ∷ []
    → ys ≡ filter test (range_with_len 0 (n + 1))
index_kept test n xs ys e p h =
    h ∙ ap (λ (zs : List ℕ). zs ++ n ∷ []) e ∙ ap (λ (b : Bool). filter test (range_with_len 0 n) ++ cond b (n ∷ []) []) (sym p) ∙ sym (filter_more test n)

-- the number n does not pass, and the list is unchanged
pub index_dropped : (test : ℕ → Bool) (n : ℕ) (xs ys : List ℕ) → xs ≡ filter test (range_with_len 0 n) → test n ≡ false → ys ≡ xs
    → ys ≡ filter test (range_with_len 0 (n + 1))
index_dropped test n xs ys e p h =
    h ∙ e ∙ sym (append-nil (filter test (range_with_len 0 n))) ∙ ap (λ (b : Bool). filter test (range_with_len 0 n) ++ cond b (n ∷ []) []) (sym p) ∙ sym (filter_more test n)

filter_skips : (test : ℕ → Bool) (from d : ℕ) → ((k : ℕ) → from ≤ k → k < from + d → test k ≡ false) → filter test (range_with_len 0 from) ≡ filter test (range_with_len 0 (from + d))
filter_skips test from zero none = let e : from ≡ from + 0 = omega arith in ap (λ (n : ℕ). filter test (range_with_len 0 n)) e
filter_skips test from (suc d) none =
    let e : from + d + 1 ≡ from + suc d = omega arith in
    let xs = filter test (range_with_len 0 from) in
    index_dropped test (from + d) xs xs (filter_skips test from d (λ k low high. none k low (omega (arith, high)))) (none (from + d) (omega arith) (omega arith)) refl
    ∙ ap (λ (n : ℕ). filter test (range_with_len 0 n)) e

-- no number from `from` on and below `at` passes
pub filter_between : (test : ℕ → Bool) (from at : ℕ) → from ≤ at → ((k : ℕ) → from ≤ k → k < at → test k ≡ false) → filter test (range_with_len 0 from) ≡ filter test (range_with_len 0 at)
filter_between test from at h none =
    let e : from + (at - from) ≡ at = omega (arith, h) in
    filter_skips test from (at - from) (λ k low high. none k low (rw e at high)) ∙ ap (λ (n : ℕ). filter test (range_with_len 0 n)) e

-- the next number that passes was pushed
pub next_pushed : (test : ℕ → Bool) (from at : ℕ) (xs ys : List ℕ) → xs ≡ filter test (range_with_len 0 from)
    → (from ≤ at) × (test at ≡ true) × ((k : ℕ) → from ≤ k → k < at → test k ≡ false) → ys ≡ xs ++ at ∷ []
    → ys ≡ filter test (range_with_len 0 (at + 1))
next_pushed test from at xs ys e (h, this, before) put = index_kept test at xs ys (e ∙ filter_between test from at h before) this put

-- two tests that agree on every number keep the same numbers
pub filter_same : (p q : ℕ → Bool) (n : ℕ) → ((k : ℕ) → p k ≡ q k) → filter p (range_with_len 0 n) ≡ filter q (range_with_len 0 n)
filter_same p q n same = λ i. filter (λ k. same k i) (range_with_len 0 n)

-- ---- how many numbers pass

length_more : (test : ℕ → Bool) (n : ℕ) → length (filter test (range_with_len 0 (n + 1))) ≡ length (filter test (range_with_len 0 n)) + cond (test n) 1 0
length_more test n = ap length (filter_more test n) ∙ length-append (filter test (range_with_len 0 n)) (cond (test n) (n ∷ []) []) ∙ ap (λ (x : ℕ). length (filter test (range_with_len 0 n)) + x) (of (test n))
  where
    of : (b : Bool) → ◌≡◌ {A = ℕ} (length (cond b (n ∷ []) [])) (cond b 1 0)
    of true = refl
    of false = refl

pub few_kept : (test : ℕ → Bool) (n : ℕ) → length (filter test (range_with_len 0 n)) ≤ n
few_kept test zero = omega arith
few_kept test (suc n) =
    let e : suc n ≡ n + 1 = omega arith in let more = length_more test n in let before = few_kept test n in let one = small (test n) in
    let same = ap (λ (k : ℕ). length (filter test (range_with_len 0 k))) e in omega (arith, same, more, before, one)
  where
    small : (b : Bool) → cond b 1 0 ≤ 1
    small true = omega arith
    small false = omega arith
