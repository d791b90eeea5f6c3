-- The indexes under a key, of pairs.
use Rattle.std.proofs.Common.{◌≡◌, ℕ, Bool, true, false, cond, List, [], ◌∷◌, ◌&&◌, not, ◌+◌, ◌-◌, ◌<◌, ◌≤◌, Ordering, refl, sym, ap, subst, arith, ◌∙◌, length, get_or, take, drop, map, slice_range, ⊎_elim, All}
use Rattle.std.specs.List.{filter, list_any}
use Rattle.std.specs.List.Sorted.{IsPermutation, IsSortedBy, IsStableBy, ties}
use Rattle.std.specs.Cmp.Lexicographic.{bytes_decides, nat_list_cmp_total}
use Rattle.std.specs.Str.{bytes_eq}
use Rattle.std.specs.Cmp.{IsTotalOrder}
use Rattle.std.specs.Cmp.Lexicographic.{slice_cmp}
use Rattle.std.specs.Ordering.{nat_cmp, is_lt, ordering_then}
use Rattle.std.specs.declared.cmp.Ordering.TheVariants.{Less, Equal, Greater}
use Rattle.std.proofs.lemmas.Bool.{cases_Bool}
use Rattle.std.proofs.lemmas.Cmp.{then_total, on_total, nat_cmp_total}
use Rattle.std.proofs.lemmas.List.{take-map, drop-map}
use Rattle.std.proofs.lemmas.List.Elements.{All-weaker}
use Rattle.std.proofs.lemmas.List.Folds.{Any-from_list_any}
use Rattle.std.proofs.lemmas.List.Sorted.{list_any-IsPermutation, All-permutation}
use Rattle.std.proofs.lemmas.Map.Lookups.{exact_bytes}
use Rattle.glob_path.specs.Entries.{indexes_under}
use Rattle.glob_path.specs.declared.pairs.Pair.{Pair}
use Rattle.glob_path.specs.inner.Pairs.{pair_key, entries_of, hash_of, hashed_order, key_order, pair_below, pair_before, IsKept}
use Rattle.glob_path.proofs.lemmas.Filters.{filter_same, filter_none_any, filter_none, filter_part}
use Rattle.glob_path.proofs.lemmas.Order.{IsKeyOrder, ties_is}

pub hashes_ordered : IsTotalOrder (λ (x y : ℕ × List ℕ). hashed_order x.0 x.1 y.0 y.1)
hashes_ordered = then_total (on_total (λ x. x.0) nat_cmp_total) (on_total (λ x. x.1) nat_list_cmp_total)

second_equal : (r s : Ordering) → ordering_then r s ≡ Equal → s ≡ Equal
second_equal Less s e = cc
second_equal Equal s e = e
second_equal Greater s e = cc

pub keys_ordered : IsKeyOrder key_order
keys_ordered = record {
  total = on_total (λ x. (hash_of x, x)) hashes_ordered;
  exact = λ x y e. exact_bytes x y (second_equal (nat_cmp (hash_of x) (hash_of y)) (slice_cmp nat_cmp x y) e);
}

-- whether a pair has this key
abbrev pub has_key : List ℕ → List ℕ → Pair → Bool
has_key bytes q p = bytes_eq (pair_key bytes p) q

choose_index : (b : Bool) (p : Pair) (l : List Pair) → cond b (p.index ∷ map (λ p. p.index) l) (map (λ p. p.index) l) ≡ map (λ p. p.index) (cond b (p ∷ l) l)
choose_index true p l = refl
choose_index false p l = refl

pub under_filter : (bytes : List ℕ) (ps : List Pair) (q : List ℕ) → indexes_under (entries_of bytes ps) q ≡ map (λ p. p.index) (filter (has_key bytes q) ps)
under_filter bytes [] q = refl
under_filter bytes (p ∷ ps) q =
    ap (λ l. cond (has_key bytes q p) (p.index ∷ l) l) (under_filter bytes ps q) ∙ choose_index (has_key bytes q p) p (filter (has_key bytes q) ps)

-- by the hashes that the pairs hold, and by those of their keys
before_is : (bytes : List ℕ) (p q : Pair) → IsKept bytes p → IsKept bytes q → pair_before bytes p q ≡ pair_below bytes p q
before_is bytes p q a b =
    ap (λ h. is_lt (hashed_order h (pair_key bytes p) q.hash (pair_key bytes q))) a.1
    ∙ ap (λ h. is_lt (hashed_order (hash_of (pair_key bytes p)) (pair_key bytes p) h (pair_key bytes q))) b.1

pub sorted_below : (bytes : List ℕ) (qs : List Pair) → All (IsKept bytes) qs → IsSortedBy (pair_before bytes) qs → IsSortedBy (pair_below bytes) qs
sorted_below bytes qs kept up = λ k d a b.
    sym (before_is bytes (get_or qs (k + 1) d) (get_or qs k d) (kept (k + 1) d b) (kept k d (omega arith))) ∙ up k d a b

ties_are : (bytes : List ℕ) (q : List ℕ) (x p : Pair) → pair_key bytes x ≡ q → IsKept bytes x → IsKept bytes p → ties (pair_before bytes) x p ≡ has_key bytes q p
ties_are bytes q x p e a b =
    ap (λ t. not t && not (pair_before bytes p x)) (before_is bytes x p a b)
    ∙ ap (λ t. not (pair_below bytes x p) && not t) (before_is bytes p x b a)
    ∙ ties_is keys_ordered (pair_key bytes) x p
    ∙ ap (bytes_eq (pair_key bytes p)) e

sorted_filter : (bytes : List ℕ) (ps qs : List Pair) → All (IsKept bytes) ps → IsPermutation ps qs → IsStableBy (pair_before bytes) ps qs → (q : List ℕ) →
    filter (has_key bytes q) qs ≡ filter (has_key bytes q) ps
sorted_filter bytes ps qs kept moved stable q =
    ⊎_elim
    (λ y. let some = Any-from_list_any (has_key bytes q) ps y in
    let x = some.1 in
    let e : pair_key bytes x ≡ q = (bytes_decides (pair_key bytes x) q).0 some.4 in
    let own : IsKept bytes x = subst (IsKept bytes) some.3 (kept some.0 x some.2) in
    let agree : (p : Pair) → IsKept bytes p → ties (pair_before bytes) x p ≡ has_key bytes q p = λ p b. ties_are bytes q x p e own b in
    let P : Pair → Type 0 = λ p. ties (pair_before bytes) x p ≡ has_key bytes q p in
    let same : (l : List Pair) → All (IsKept bytes) l → filter (ties (pair_before bytes) x) l ≡ filter (has_key bytes q) l =
    λ l h. filter_same (ties (pair_before bytes) x) (has_key bytes q) l (All-weaker (IsKept bytes) P agree l h) in
    sym (same qs (All-permutation (IsKept bytes) ps qs moved kept)) ∙ stable x ∙ same ps kept)
    (λ n. filter_none_any (has_key bytes q) qs (sym (list_any-IsPermutation (has_key bytes q) ps qs moved) ∙ n)
    ∙ sym (filter_none_any (has_key bytes q) ps n))
    (cases_Bool (list_any (has_key bytes q) ps))

-- a stable sort leaves the indexes under each key
pub sorted_under : (bytes : List ℕ) (ps qs : List Pair) → All (IsKept bytes) ps → IsPermutation ps qs → IsStableBy (pair_before bytes) ps qs → (q : List ℕ) →
    indexes_under (entries_of bytes qs) q ≡ indexes_under (entries_of bytes ps) q
sorted_under bytes ps qs kept moved stable q =
    under_filter bytes qs q ∙ ap (map (λ p. p.index)) (sorted_filter bytes ps qs kept moved stable q) ∙ sym (under_filter bytes ps q)

pub under_none : (bytes : List ℕ) (ps : List Pair) (q : List ℕ) → All (λ p. has_key bytes q p ≡ false) ps → indexes_under (entries_of bytes ps) q ≡ []
under_none bytes ps q h = under_filter bytes ps q ∙ ap (map (λ p. p.index)) (filter_none (has_key bytes q) ps h)

-- those from i up to j have the key, and no others
pub under_part : (bytes : List ℕ) (ps : List Pair) (q : List ℕ) (i j : ℕ) (d : Pair) → i ≤ j → j ≤ length ps →
    ((k : ℕ) → k < i → has_key bytes q (get_or ps k d) ≡ false) → ((k : ℕ) → i ≤ k → k < j → has_key bytes q (get_or ps k d) ≡ true) →
    ((k : ℕ) → j ≤ k → k < length ps → has_key bytes q (get_or ps k d) ≡ false) →
    slice_range (map (λ p. p.index) ps) i j ≡ indexes_under (entries_of bytes ps) q
under_part bytes ps q i j d ij jn before within after =
    ap (take (j - i)) (drop-map (λ p. p.index) i ps)
    ∙ take-map (λ p. p.index) (j - i) (drop i ps)
    ∙ ap (map (λ p. p.index)) (sym (filter_part (has_key bytes q) ps i j d ij jn before within after))
    ∙ sym (under_filter bytes ps q)
