-- Where the first byte that passes a test is, when bytes are taken away from the front.
use Rattle.std.proofs.Common.{◌≡◌, ℕ, zero, suc, ◌+◌, ◌-◌, ◌≤◌, ◌<◌, List, [], ◌∷◌, Bool, true, false, not, Option, Some, None, drop, length, cond, refl, sym, ap, ◌∙◌, arith, ltb-true, length-drop}
use Rattle.std.specs.Prelude.{nat_lt}
use Rattle.std.specs.List.{prefix_len, position_or_len, position}
use Rattle.std.proofs.lemmas.Bool.{ltb-false, lt-ltb, le-ltb}

-- how many bytes at the front pass a test, after some of them
fewer_pass : (p : ℕ → Bool) (k : ℕ) (cs : List ℕ) → k ≤ prefix_len p cs → prefix_len p (drop k cs) ≡ prefix_len p cs - k
fewer_pass p zero cs h = omega arith
fewer_pass p (suc k) [] h = absurd (omega arith)
fewer_pass p (suc k) (c ∷ cs) h = elim (p c) as (λ b. suc k ≤ cond b (1 + prefix_len p cs) 0 → prefix_len p (drop k cs) ≡ cond b (1 + prefix_len p cs) 0 - suc k) [
  | true ↦ λ g. let e : k ≤ prefix_len p cs = omega arith in omega (arith, fewer_pass p k cs e)
  | false ↦ λ g. absurd (omega arith)
] h

some_of : (n m : ℕ) (b : Bool) → cond b (Some n) None ≡ Some m → (b ≡ true) × (n ≡ m)
some_of n m true h = (refl, cc)
some_of n m false h = absurd cc

none_of : (n : ℕ) (b : Bool) → cond b (Some n) None ≡ None → b ≡ false
none_of n true h = absurd cc
none_of n false h = refl

-- the position by how many bytes are before it, and whether that is fewer than all
abbrev by_count : ℕ → Bool → Option ℕ
by_count n b = cond b (Some n) None

module _ (p : ℕ → Bool) (k : ℕ) (cs : List ℕ) where
  -- it is at `n`, and k bytes before it are taken away
  pub still_after : (n : ℕ) → Some n ≡ position p cs → k ≤ n → Some (n - k) ≡ position p (drop k cs)
  still_after n h within =
      let m = position_or_len p cs in
      let found = some_of m n (nat_lt m (length cs)) (sym h) in
      let below : m < length cs = ltb-true m (length cs) found.0 in
      let there : position_or_len p (drop k cs) ≡ n - k = omega (arith, found.1, fewer_pass (λ c. not (p c)) k cs (omega (arith, found.1))) in
      let inside : nat_lt (n - k) (length (drop k cs)) ≡ true = lt-ltb (n - k) (length (drop k cs)) (omega (arith, found.1, below, length-drop k cs)) in
      sym (ap (λ j. by_count j (nat_lt j (length (drop k cs)))) there ∙ ap (by_count (n - k)) inside)

  -- there is none
  pub none_after : None ≡ position p cs → k ≤ length cs → None ≡ position p (drop k cs)
  none_after h within =
      let m = position_or_len p cs in
      let past : length cs ≤ m = ltb-false m (length cs) (none_of m (nat_lt m (length cs)) (sym h)) in
      let j = position_or_len p (drop k cs) in
      let there : j ≡ m - k = fewer_pass (λ c. not (p c)) k cs (omega (arith, past)) in
      let outside : nat_lt j (length (drop k cs)) ≡ false = le-ltb j (length (drop k cs)) (omega (arith, past, there, length-drop k cs)) in
      sym (ap (by_count j) outside)
