-- A directory's starts: how they are made, and the rows that they lead to.
use Rattle.std.proofs.Common.{◌≡◌, ℕ, true, false, List, [], ◌∷◌, ◌++◌, ◌⊎◌, ◌+◌, ◌-◌, ◌/◌, ◌^◌, ◌<◌, ◌≤◌, ltb, All, Ordering, Option, Some, None, sym, ap, subst, ◌∙◌, length, get_or, slice_range, slice_index, drop, arith, ⊎_elim, inl, inr, length-take, length-drop}
use Rattle.std.proofs.Math.ListN.{get_or-append}
use Rattle.std.proofs.Math.Pow.{shr_mono}
use Rattle.std.specs.List.{Contains}
use Rattle.std.specs.List.Sorted.{IsSortedBy, IsNonDecreasing}
use Rattle.std.specs.Option.{MatchOption}
use Rattle.std.specs.Cmp.Lexicographic.{bytes_decides, slice_cmp}
use Rattle.std.specs.Ordering.{nat_cmp, is_lt, ordering_then}
use Rattle.std.specs.declared.cmp.Ordering.TheVariants.{Less}
use Rattle.std.specs.Str.{bytes_eq}
use Rattle.std.proofs.lemmas.Bool.{cases_lt, cases_Bool, cond-true, cond-false, lt-ltb, ltb-true, false_from_ne_true}
use Rattle.std.proofs.lemmas.List.{length-map, get_or-map, get_or_push, length_push}
use Rattle.std.proofs.lemmas.List.Sorted.{ranks_by, sorted_far}
use Rattle.glob_path.specs.declared.rows.Row.{Row}
use Rattle.glob_path.specs.inner.Pairs.{hash_of}
use Rattle.glob_path.specs.inner.Rows.{row_key, row_below, IsHashed, HasNoRow}
use Rattle.glob_path.specs.inner.Starts.{IsStart, AreStarts, HasStarts, buckets_of, hashes_of, rows_near}
use Rattle.glob_path.proofs.lemmas.Filters.{at_part}
use Rattle.glob_path.proofs.lemmas.Under.{keys_ordered}

abbrev no_row : Row
no_row = record { hash = 0; start = 0; end = 0; from = 0; to = 0 }

-- ---- buckets rise along sorted rows

first_rises : (a b : ℕ) (o : Ordering) → is_lt (ordering_then (nat_cmp a b) o) ≡ false → b ≤ a
first_rises a b o h =
    ⊎_elim
    (λ below. let t : nat_cmp a b ≡ Less = cond-true (ltb a b) Less _ (lt-ltb a b below) in
    let e : true ≡ false = sym (ap (λ r. is_lt (ordering_then r o)) t) ∙ h in cc)
    (λ le. le)
    (cases_lt a b)

-- sorted rows have rising hashes
pub hashes_rise : (bytes : List ℕ) (rows : List Row) → All (IsHashed bytes) rows → IsSortedBy (row_below bytes) rows → IsNonDecreasing (hashes_of rows)
hashes_rise bytes rows hashed up = λ i j d le lt.
    let n : j < length rows = omega (arith, lt, length-map rows (λ (r : Row). r.hash)) in
    let m : i < length rows = omega arith in
    let x = row_key bytes (get_or rows i no_row) in
    let y = row_key bytes (get_or rows j no_row) in
    let h : hash_of x ≤ hash_of y = first_rises (hash_of y) (hash_of x) (slice_cmp nat_cmp y x) (sorted_far (row_below bytes) (ranks_by keys_ordered.total (row_key bytes)) rows up i j no_row le n) in
    let first : get_or (hashes_of rows) i d ≡ hash_of x = get_or-map (λ (r : Row). r.hash) rows i no_row d m ∙ hashed i no_row m in
    let second : get_or (hashes_of rows) j d ≡ hash_of y = get_or-map (λ (r : Row). r.hash) rows j no_row d n ∙ hashed j no_row n in
    omega (arith, h, first, second)

pub buckets_rise : (rows : List Row) (shift : ℕ) → IsNonDecreasing (hashes_of rows) → IsNonDecreasing (buckets_of shift rows)
buckets_rise rows shift up = λ i j d le lt.
    let n : j < length rows = omega (arith, lt, length-map rows (λ (r : Row). r.hash / 2 ^ shift)) in
    let m : i < length rows = omega arith in
    let h : get_or (hashes_of rows) i 0 ≤ get_or (hashes_of rows) j 0 = up i j 0 le (omega (arith, n, length-map rows (λ (r : Row). r.hash))) in
    let first : get_or (hashes_of rows) i 0 ≡ (get_or rows i no_row).hash = get_or-map (λ (r : Row). r.hash) rows i no_row 0 m in
    let second : get_or (hashes_of rows) j 0 ≡ (get_or rows j no_row).hash = get_or-map (λ (r : Row). r.hash) rows j no_row 0 n in
    let rises : (get_or rows i no_row).hash ≤ (get_or rows j no_row).hash = omega (arith, h, first, second) in
    rw (get_or-map (λ (r : Row). r.hash / 2 ^ shift) rows i no_row d m, get_or-map (λ (r : Row). r.hash / 2 ^ shift) rows j no_row d n) (shr_mono shift rises)

-- ---- the loop that makes starts

pub record StartsTo (buckets made : List ℕ) (from bucket : ℕ) : Type 0 where
  pub bound : from ≤ length buckets
  pub before : (k : ℕ) → k < from → slice_index buckets k < bucket
  pub starts : AreStarts buckets made
  pub counted : length made ≡ bucket

pub starts_more : (buckets starts : List ℕ) (from to put bucket : ℕ) → IsNonDecreasing buckets → StartsTo buckets starts from bucket → put ≡ to → to ≤ length buckets →
    ((k : ℕ) → k < to → slice_index buckets k < bucket) → (to < length buckets → bucket ≤ slice_index buckets to) → StartsTo buckets (starts ++ put ∷ []) to (bucket + 1)
starts_more buckets starts from to put bucket up s is bound before here =
    let more : (b : ℕ) → b < length (starts ++ put ∷ []) → IsStart buckets b (slice_index (starts ++ put ∷ []) b) = λ b lt.
    ⊎_elim
    (λ low. subst (IsStart buckets b) (sym (get_or-append starts (put ∷ []) 0 b low)) (s.starts b low))
    (λ high.
    let e : b ≡ bucket = omega (arith, length_push starts put, lt, s.counted) in
    let last : slice_index (starts ++ put ∷ []) b ≡ to = get_or_push starts put 0 b (s.counted ∙ sym e) ∙ is in
    let here' : IsStart buckets bucket to = ((λ k a n. before k a), (λ k a n. omega (arith, here (omega arith), up to k 0 a n))) in
    subst (IsStart buckets b) (sym last) (subst (λ c. IsStart buckets c to) (sym e) here'))
    (cases_lt b (length starts)) in
    record {
      bound = bound;
      before = λ k lt. omega (arith, before k lt);
      starts = more;
      counted = length_push starts put ∙ ap (λ n. n + 1) s.counted;
    }

-- ---- the rows of a bucket

near_is : (rows : List Row) (starts : List ℕ) (b : ℕ) →
    (rows_near rows starts b ≡ rows) ⊎ ((b + 1 < length starts) × (rows_near rows starts b ≡ slice_range rows (slice_index starts b) (slice_index starts (b + 1))))
unfolding rows_near
near_is rows starts b =
    let part = slice_range rows (slice_index starts b) (slice_index starts (b + 1)) in
    ⊎_elim
    (λ t. inr (ltb-true (b + 1) (length starts) t, cond-true (ltb (b + 1) (length starts)) part rows t))
    (λ f. inl (cond-false (ltb (b + 1) (length starts)) part rows f))
    (cases_Bool (ltb (b + 1) (length starts)))

part_sorted : (bytes : List ℕ) (rows : List Row) (i j : ℕ) → IsSortedBy (row_below bytes) rows → IsSortedBy (row_below bytes) (slice_range rows i j)
part_sorted bytes rows i j up = λ k d a b.
    let small : k + 1 < j - i = omega (arith, b, length-take (j - i) (drop i rows)) in
    let within : i + k + 1 < length rows = omega (arith, b, length-take (j - i) (drop i rows), length-drop i rows) in
    let first : get_or (slice_range rows i j) k d ≡ get_or rows (i + k) d = at_part rows i j k d (omega arith) in
    let second : get_or (slice_range rows i j) (k + 1) d ≡ get_or rows (i + k + 1) d = at_part rows i j (k + 1) d small ∙ ap (λ n. get_or rows n d) (let e : i + (k + 1) ≡ i + k + 1 = omega arith in e) in
    rw (first, second) (up (i + k) d (omega arith) within)

part_all : (P : Row → Type 0) (rows : List Row) (i j : ℕ) → All P rows → All P (slice_range rows i j)
part_all P rows i j all = λ k d lt.
    let small : k < j - i = omega (arith, lt, length-take (j - i) (drop i rows)) in
    subst P (sym (at_part rows i j k d small)) (all (i + k) d (omega (arith, lt, length-take (j - i) (drop i rows), length-drop i rows)))

part_contains : (rows : List Row) (i j : ℕ) (r : Row) → Contains (slice_range rows i j) r → Contains rows r
part_contains rows i j r h =
    let small : h.0 < j - i = omega (arith, h.1, length-take (j - i) (drop i rows)) in
    (i + h.0, omega (arith, h.1, length-take (j - i) (drop i rows), length-drop i rows), sym (at_part rows i j h.0 r small) ∙ h.2)

pub near_sorted : (bytes : List ℕ) (rows : List Row) (starts : List ℕ) (b : ℕ) → IsSortedBy (row_below bytes) rows → IsSortedBy (row_below bytes) (rows_near rows starts b)
near_sorted bytes rows starts b up =
    ⊎_elim
    (λ e. subst (λ l. IsSortedBy (row_below bytes) l) (sym e) up)
    (λ h. subst (λ l. IsSortedBy (row_below bytes) l) (sym h.1) (part_sorted bytes rows _ _ up))
    (near_is rows starts b)

pub near_all : (P : Row → Type 0) (rows : List Row) (starts : List ℕ) (b : ℕ) → All P rows → All P (rows_near rows starts b)
near_all P rows starts b all =
    ⊎_elim
    (λ e. subst (λ l. All P l) (sym e) all)
    (λ h. subst (λ l. All P l) (sym h.1) (part_all P rows _ _ all))
    (near_is rows starts b)

pub near_contains : (rows : List Row) (starts : List ℕ) (b : ℕ) (r : Row) → Contains (rows_near rows starts b) r → Contains rows r
near_contains rows starts b r h =
    ⊎_elim
    (λ e. subst (λ l. Contains l r) e h)
    (λ n. part_contains rows _ _ r (subst (λ l. Contains l r) n.1 h))
    (near_is rows starts b)

pub near_length : (rows : List Row) (starts : List ℕ) (b : ℕ) → length (rows_near rows starts b) ≤ length rows
near_length rows starts b =
    ⊎_elim
    (λ e. subst (λ l. length l ≤ length rows) (sym e) (omega arith))
    (λ n. let from = slice_index starts b in
    let to = slice_index starts (b + 1) in
    subst (λ l. length l ≤ length rows) (sym n.1) (omega (arith, length-take (to - from) (drop from rows), length-drop from rows)))
    (near_is rows starts b)

-- a row with the key is in the bucket of the key's hash
pub near_none : (bytes : List ℕ) (rows : List Row) (shift : ℕ) (starts q : List ℕ) → All (IsHashed bytes) rows → HasStarts rows shift starts →
    HasNoRow bytes (rows_near rows starts (hash_of q / 2 ^ shift)) q → HasNoRow bytes rows q
near_none bytes rows shift starts q hashed s h =
    ⊎_elim
    (λ e. subst (λ l. HasNoRow bytes l q) e h)
    (λ n.
    let b = hash_of q / 2 ^ shift in
    let from = slice_index starts b in
    let to = slice_index starts (b + 1) in
    let none : HasNoRow bytes (slice_range rows from to) q = subst (λ l. HasNoRow bytes l q) n.1 h in
    λ k d lt.
    let r = get_or rows k d in
    let in' : k < length (buckets_of shift rows) = omega (arith, lt, length-map rows (λ (x : Row). x.hash / 2 ^ shift)) in
    let own : slice_index (buckets_of shift rows) k ≡ r.hash / 2 ^ shift = get_or-map (λ (x : Row). x.hash / 2 ^ shift) rows k d 0 lt in
    let same : bytes_eq (row_key bytes r) q ≡ true → slice_index (buckets_of shift rows) k ≡ b = λ t. own ∙ ap (λ g. g / 2 ^ shift) (hashed k d lt ∙ ap hash_of ((bytes_decides (row_key bytes r) q).0 t)) in
    ⊎_elim
    (λ low. false_from_ne_true (bytes_eq (row_key bytes r) q) (λ t. omega (arith, (s.at b (omega arith)).0 k low in', same t)))
    (λ high.
    ⊎_elim
    (λ inside.
    let there : get_or (slice_range rows from to) (k - from) d ≡ r = at_part rows from to (k - from) d (omega arith) ∙ ap (λ m. get_or rows m d) (let e : from + (k - from) ≡ k = omega arith in e) in
    subst (λ x. bytes_eq (row_key bytes x) q ≡ false) there (none (k - from) d (omega (arith, length-take (to - from) (drop from rows), length-drop from rows))))
    (λ past. false_from_ne_true (bytes_eq (row_key bytes r) q) (λ t. omega (arith, (s.at (b + 1) n.0).1 k past in', same t)))
    (cases_lt k to))
    (cases_lt k from))
    (near_is rows starts (hash_of q / 2 ^ shift))

pub match_weaker : {T : Type 0} {P Q : Type 0} {R S : T → Type 0} (o : Option T) → (P → Q) → ((x : T) → R x → S x) → MatchOption o P R → MatchOption o Q S
match_weaker None f g h = f h
match_weaker (Some x) f g h = g x h
