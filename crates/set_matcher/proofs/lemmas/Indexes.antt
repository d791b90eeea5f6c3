-- The indexes of the items of a list that pass a test.
use Rattle.std.proofs.Common.{◌≡◌, ℕ, zero, suc, ◌+◌, ◌<◌, List, [], ◌∷◌, length, get_or, Bool, true, false, cond, refl, ap, sym, subst, ◌∙◌, arith}
use Rattle.std.specs.Prelude.{◌↔◌, ◌≢◌, filter, Contains, IsTrue}
use Rattle.std.specs.List.{range_with_len}
use Rattle.std.proofs.lemmas.List.Elements.{filter_passes, All-filter, All-contains, All-from_get_or}
use Rattle.std.proofs.lemmas.List.FromFn.{length-range_with_len, get_or-range_with_len}
use Rattle.set_matcher.specs.Indexes.{passes_at, passing_indexes, ContainsAllBelow}
pub use Rattle.bit_sets.proofs.lemmas.Filters.{filter_more}

-- ---- items

pub some_index : (xs : List ℕ) → xs ≢ [] → (i : ℕ) × Contains xs i
some_index [] some = absurd (some refl)
some_index (x ∷ xs) some = (x, (0, omega arith, refl))

pub index_in : (xs : List ℕ) (i : ℕ) → Contains xs i → xs ≢ []
index_in xs i at e = absurd (omega (arith, at.1, ap length e))

-- ---- items that pass

passes_on : (b : Bool) (x : ℕ) (ys : List ℕ) (i : ℕ) → Contains ys i → Contains (cond b (x ∷ ys) ys) i
passes_on true x ys i h = (suc h.0, omega (arith, h.1), h.2)
passes_on false x ys i h = h

-- a number that is in a list and passes the test is in the filtered list
filter_keeps : (test : ℕ → Bool) (xs : List ℕ) (k i : ℕ) → k < length xs → get_or xs k i ≡ i → test i ≡ true → Contains (filter test xs) i
filter_keeps test [] k i h e p = absurd (omega arith)
filter_keeps test (x ∷ xs) zero i h e p =
    subst (λ (y : ℕ). Contains (cond (test y) (y ∷ filter test xs) (filter test xs)) i) (sym e)
    (subst (λ (b : Bool). Contains (cond b (i ∷ filter test xs) (filter test xs)) i) (sym p) (0, omega arith, refl))
filter_keeps test (x ∷ xs) (suc k) i h e p = passes_on (test x) x (filter test xs) i (filter_keeps test xs k i (omega (arith, h)) e p)

-- the numbers below n that pass
pub in_filter : (test : ℕ → Bool) (n k : ℕ) → Contains (filter test (range_with_len 0 n)) k ↔ ((k < n) × (test k ≡ true))
in_filter test n k = (
  λ h. (
    All-contains (λ j. j < n) (filter test (range_with_len 0 n)) k
        (All-filter test (λ j. j < n) (range_with_len 0 n) (All-from_get_or (λ j. j < n) (range_with_len 0 n) 0
        (λ i l. let within : i < n = rw length-range_with_len at l in rw (get_or-range_with_len 0 n i 0 within) (omega arith)))) h,
    All-contains (λ j. test j ≡ true) (filter test (range_with_len 0 n)) k (filter_passes test (range_with_len 0 n)) h,
  ),
  λ h. let z : 0 + k ≡ k = omega arith in filter_keeps test (range_with_len 0 n) k k (rw length-range_with_len h.0) (get_or-range_with_len 0 n k k h.0 ∙ z) h.1,
)

-- the index of an item that passes
pub passing_is_contained : {X : Type 0} (test : X → Bool) (xs : List X) (i : ℕ) → i < length xs → passes_at test xs i ≡ true → Contains (passing_indexes test xs) i
passing_is_contained test xs i h p = (in_filter (passes_at test xs) (length xs) i).1 (h, p)

pub contained_passes : {X : Type 0} (test : X → Bool) (xs : List X) (i : ℕ) → Contains (passing_indexes test xs) i → (i < length xs) × (passes_at test xs i ≡ true)
contained_passes test xs i h = (in_filter (passes_at test xs) (length xs) i).0 h

pub passes_within : {X : Type 0} (test : X → Bool) (xs : List X) (k : ℕ) → passes_at test xs k ≡ true → k < length xs
passes_within test [] k h = absurd (cc)
passes_within test (x ∷ xs) zero h = omega arith
passes_within test (x ∷ xs) (suc k) h = let e = passes_within test xs k h in omega (arith, e)

-- ---- all items

pub all_pass : {X : Type 0} (test : X → Bool) (xs : List X) → ((i : ℕ) → i < length xs → passes_at test xs i ≡ true)
    → IsTrue true ↔ ContainsAllBelow (passing_indexes test xs) (length xs)
all_pass test xs h = (λ y i l. passing_is_contained test xs i l (h i l), λ all. refl)
