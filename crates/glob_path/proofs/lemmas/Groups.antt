-- The loop that makes a row of all pairs of one key, in sorted pairs.
use Rattle.std.proofs.Common.{◌≡◌, ℕ, false, List, [], ◌∷◌, ◌++◌, ◌+◌, ◌-◌, ◌<◌, ◌≤◌, refl, sym, ap, subst, ◌∙◌, length, get_or, map, slice_range, arith, ⊎_elim, All}
use Rattle.std.specs.List.Sorted.{IsSortedBy}
use Rattle.std.specs.Ordering.{is_lt}
use Rattle.std.specs.Str.{bytes_eq}
use Rattle.std.specs.Cmp.Lexicographic.{bytes_decides}
use Rattle.std.proofs.lemmas.Bool.{cases_lt, false_from_ne_true}
use Rattle.std.proofs.lemmas.List.Elements.{All-cons, All-head, All-tail, All-push, All-weaker, All-from_get_or}
use Rattle.std.proofs.lemmas.List.{length-map, length_push}
use Rattle.std.proofs.lemmas.List.Kept.{IsSortedBy-push}
use Rattle.std.proofs.lemmas.List.Sorted.{ranks_by, sorted_far}
use Rattle.glob_path.specs.Entries.{indexes_under}
use Rattle.glob_path.specs.declared.pairs.Pair.{Pair}
use Rattle.glob_path.specs.declared.rows.Row.{Row}
use Rattle.glob_path.specs.inner.Pairs.{pair_key, entries_of, key_order, pair_below}
use Rattle.glob_path.specs.inner.Rows.{row_key, row_below, IsHashed, IsListed, HasNoRow, HasRows, key_at, IsSameKey, IsOtherKey}
use Rattle.glob_path.proofs.lemmas.Order.{same_between}
use Rattle.glob_path.proofs.lemmas.Under.{keys_ordered, has_key, under_none, under_part}

abbrev pub no_pair : Pair
no_pair = record { hash = 0; start = 0; end = 0; index = 0 }

-- a key is not below another
abbrev NotBelow : List ℕ → List ℕ → Type 0
NotBelow x y = is_lt (key_order x y) ≡ false

not_below_chain : (x y z : List ℕ) → NotBelow x y → NotBelow y z → NotBelow x z
not_below_chain x y z = (ranks_by keys_ordered.total (λ (l : List ℕ). l)).chain x y z

-- the first `from` pairs have their rows, and those from there up to `at`, and the one at `at`, have one key
pub record Grouped (bytes : List ℕ) (ps : List Pair) (rows : List Row) (from at : ℕ) : Type 0 where
  pub behind : from ≤ at
  pub few : length rows ≤ from
  pub ended : at ≡ length ps → from ≡ at
  pub same : (k : ℕ) → from ≤ k → k < at → key_at bytes ps k ≡ key_at bytes ps at
  pub apart : 0 < from → from < length ps → ¬ (key_at bytes ps (from - 1) ≡ key_at bytes ps from)
  pub listed : All (IsListed bytes (map (λ p. p.index) ps) (entries_of bytes ps)) rows
  pub covered : (q : List ℕ) → HasNoRow bytes rows q → (k : ℕ) → k < from → bytes_eq (key_at bytes ps k) q ≡ false
  pub hashed : All (IsHashed bytes) rows
  pub sorted : IsSortedBy (row_below bytes) rows
  pub below : from < length ps → All (λ r. NotBelow (key_at bytes ps from) (row_key bytes r)) rows

-- the next pair has the same key
pub grouped_more : (bytes : List ℕ) (ps : List Pair) (rows : List Row) (from at : ℕ) → Grouped bytes ps rows from at → at < length ps →
    IsSameKey bytes ps at → Grouped bytes ps rows from (at + 1)
grouped_more bytes ps rows from at g lt next = record {
  behind = omega (arith, g.behind);
  few = g.few;
  ended = λ e. absurd (omega (arith, next.0));
  same = λ k a b. ⊎_elim (λ low. g.same k a low ∙ sym next.1) (λ high. let e : k ≡ at = omega arith in ap (key_at bytes ps) e ∙ sym next.1) (cases_lt k at);
  apart = g.apart;
  listed = g.listed;
  covered = g.covered;
  hashed = g.hashed;
  sorted = g.sorted;
  below = g.below;
}

-- pairs that are not next to each other
far : (bytes : List ℕ) (ps : List Pair) → IsSortedBy (pair_below bytes) ps → (i j : ℕ) → i ≤ j → j < length ps → NotBelow (key_at bytes ps j) (key_at bytes ps i)
far bytes ps up i j le lt = sorted_far (pair_below bytes) (ranks_by keys_ordered.total (pair_key bytes)) ps up i j no_pair le lt

-- a key that differs, as a test
differs : (x y : List ℕ) → ¬ (x ≡ y) → bytes_eq x y ≡ false
differs x y n = false_from_ne_true (bytes_eq x y) (λ t. n ((bytes_decides x y).0 t))

-- what holds of a list and one more element
unpush : {X : Type 0} (P : X → Type 0) (xs : List X) (x : X) → All P (xs ++ x ∷ []) → All P xs × P x
unpush P [] x h = ((λ k d lt. absurd (omega arith)), All-head P x [] h)
unpush P (y ∷ xs) x h =
    let rest = unpush P xs x (All-tail P y (xs ++ x ∷ []) h) in
    (All-cons P y xs (All-head P y (xs ++ x ∷ []) h) rest.0, rest.1)

module _ (bytes : List ℕ) (ps : List Pair) (rows : List Row) (from at : ℕ) (g : Grouped bytes ps rows from at) (lt : at < length ps) (up : IsSortedBy (pair_below bytes) ps) (other : IsOtherKey bytes ps at) where
  -- all of the group have the key of its last pair
  key_is : (k : ℕ) → from ≤ k → k < at + 1 → key_at bytes ps k ≡ key_at bytes ps at
  key_is k a b = ⊎_elim (λ low. g.same k a low) (λ high. let e : k ≡ at = omega arith in ap (key_at bytes ps) e) (cases_lt k at)

  between : (i j k : ℕ) → i ≤ j → j ≤ k → k < length ps → key_at bytes ps i ≡ key_at bytes ps k → key_at bytes ps j ≡ key_at bytes ps i
  between i j k ij jk kn e = same_between keys_ordered (pair_key bytes) ps i j k no_pair up ij jk kn e

  before : (k : ℕ) → k < from → ¬ (key_at bytes ps k ≡ key_at bytes ps at)
  before k low e =
      let to_from : key_at bytes ps k ≡ key_at bytes ps from = e ∙ sym (key_is from (omega arith) (omega (arith, g.behind))) in
      let mid = between k (from - 1) from (omega arith) (omega arith) (omega (arith, g.behind)) to_from in
      g.apart (omega arith) (omega (arith, g.behind)) (mid ∙ to_from)

  after : (k : ℕ) → at + 1 ≤ k → k < length ps → ¬ (key_at bytes ps k ≡ key_at bytes ps at)
  after k a b e = other (omega arith) (between at (at + 1) k (omega arith) a b (sym e))

  row_listed : (r : Row) → row_key bytes r ≡ key_at bytes ps at → r.from ≡ from → r.to ≡ at + 1 → IsListed bytes (map (λ p. p.index) ps) (entries_of bytes ps) r
  row_listed r key f t =
      let q = key_at bytes ps at in
      ap (λ i. slice_range (map (λ p. p.index) ps) i r.to) f ∙ ap (slice_range (map (λ p. p.index) ps) from) t
      ∙ under_part bytes ps q from (at + 1) no_pair (omega (arith, g.behind)) (omega arith)
      (λ k low. differs (key_at bytes ps k) q (before k low))
      (λ k a b. (bytes_decides (key_at bytes ps k) q).1 (key_is k a b))
      (λ k a b. differs (key_at bytes ps k) q (after k a b))
      ∙ ap (indexes_under (entries_of bytes ps)) (sym key)

  -- the row of the group
  pub grouped_row : (r : Row) → row_key bytes r ≡ key_at bytes ps at → r.from ≡ from → r.to ≡ at + 1 → IsHashed bytes r → Grouped bytes ps (rows ++ r ∷ []) (at + 1) (at + 1)
  grouped_row r key f t hash =
      let group : key_at bytes ps from ≡ row_key bytes r = key_is from (omega arith) (omega (arith, g.behind)) ∙ sym key in
      let P : List ℕ → Row → Type 0 = λ x s. NotBelow x (row_key bytes s) in
      let lower : from < length ps = omega (arith, g.behind) in
      record {
        behind = omega arith;
        few = omega (arith, length_push rows r, g.few, g.behind);
        ended = λ e. refl;
        same = λ k a b. absurd (omega arith);
        apart = λ a b e. let one : at + 1 - 1 ≡ at = omega arith in other b (sym e ∙ ap (key_at bytes ps) one);
        listed = All-push (IsListed bytes (map (λ p. p.index) ps) (entries_of bytes ps)) rows r g.listed (row_listed r key f t);
        covered = λ q h k low.
            let parts = unpush (λ s. bytes_eq (row_key bytes s) q ≡ false) rows r h in
            ⊎_elim (λ a. g.covered q parts.0 k a)
            (λ a. subst (λ l. bytes_eq l q ≡ false) (key ∙ sym (key_is k a low)) parts.1)
            (cases_lt k from);
        hashed = All-push (IsHashed bytes) rows r g.hashed hash;
        sorted = IsSortedBy-push (row_below bytes) rows r g.sorted (λ d some.
            subst (λ l. NotBelow l (row_key bytes (get_or rows (length rows - 1) d))) group (g.below lower (length rows - 1) d (omega arith)));
        below = λ a. All-push (P (key_at bytes ps (at + 1))) rows r
            (All-weaker (P (key_at bytes ps from)) (P (key_at bytes ps (at + 1)))
            (λ s h. not_below_chain (key_at bytes ps (at + 1)) (key_at bytes ps from) (row_key bytes s) (far bytes ps up from (at + 1) (omega (arith, g.behind)) a) h) rows (g.below lower))
            (subst (λ l. NotBelow (key_at bytes ps (at + 1)) l) (sym key) (far bytes ps up at (at + 1) (omega arith) a));
      }

-- all pairs have their rows
pub grouped_all : (bytes : List ℕ) (ps : List Pair) (rows : List Row) (from at : ℕ) → Grouped bytes ps rows from at → at ≡ length ps →
    HasRows bytes rows (map (λ p. p.index) ps) (entries_of bytes ps)
grouped_all bytes ps rows from at g e = record {
  listed = g.listed;
  missing = λ q h. under_none bytes ps q (All-from_get_or (λ p. has_key bytes q p ≡ false) ps no_pair (λ k lt. g.covered q h k (omega (arith, g.ended e))));
  hashed = g.hashed;
  sorted = g.sorted;
  few = omega (arith, g.few, g.behind, length-map ps (λ (p : Pair). p.index));
}
