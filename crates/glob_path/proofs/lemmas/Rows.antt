-- What a search by halves finds among rows, and how often it compares.
use Rattle.std.proofs.Common.{◌≡◌, ℕ, zero, suc, true, false, List, ◌+◌, ◌-◌, ◌/◌, ◌^◌, ◌<◌, ◌≤◌, sym, ap, subst, ◌∙◌, length, get_or, map, arith, ⊎_elim}
use Rattle.std.specs.Cmp.Lexicographic.{bytes_decides}
use Rattle.std.specs.Ordering.{is_lt, ordering_reverse}
use Rattle.std.specs.Str.{bytes_eq}
use Rattle.std.specs.List.{Contains}
use Rattle.std.specs.List.Sorted.{IsSortedBy}
use Rattle.std.specs.declared.cmp.Ordering.TheVariants.{Less, Equal, Greater}
use Rattle.std.proofs.lemmas.Bool.{cases_lt, false_from_ne_true}
use Rattle.std.proofs.lemmas.List.{length-map, get_or_default}
use Rattle.std.proofs.lemmas.List.Elements.{All-weaker, Contains-get_or}
use Rattle.glob_path.specs.Entries.{Entry, indexes_under}
use Rattle.std.proofs.lemmas.List.Sorted.{ranks_by, sorted_far}
use Rattle.glob_path.specs.declared.rows.Row.{Row}
use Rattle.glob_path.specs.inner.Pairs.{key_order, pair_entry, entries_of}
use Rattle.glob_path.specs.declared.pairs.Pair.{Pair}
use Rattle.glob_path.specs.inner.Rows.{row_key, row_below, IsListed, HasNoRow, HasRows}
use Rattle.glob_path.proofs.lemmas.Under.{keys_ordered}

-- ---- the loop that searches by halves

abbrev pub no_row : Row
no_row = record { hash = 0; start = 0; end = 0; from = 0; to = 0 }

-- the key of the row at an index
abbrev pub row_key_at : List ℕ → List Row → ℕ → List ℕ
row_key_at bytes rows k = row_key bytes (get_or rows k no_row)

far : (bytes : List ℕ) (rows : List Row) → IsSortedBy (row_below bytes) rows → (i j : ℕ) → i ≤ j → j < length rows → is_lt (key_order (row_key_at bytes rows j) (row_key_at bytes rows i)) ≡ false
far bytes rows up i j le lt = sorted_far (row_below bytes) (ranks_by keys_ordered.total (row_key bytes)) rows up i j no_row le lt

-- no row up to one with a lower key has the key
lower_none : (bytes : List ℕ) (rows : List Row) (q : List ℕ) (at k : ℕ) → IsSortedBy (row_below bytes) rows → at < length rows →
    key_order (row_key_at bytes rows at) q ≡ Less → k ≤ at → bytes_eq (row_key_at bytes rows k) q ≡ false
lower_none bytes rows q at k up lt less le =
    false_from_ne_true (bytes_eq (row_key_at bytes rows k) q) (λ t.
    let h : is_lt (key_order (row_key_at bytes rows at) q) ≡ false =
    subst (λ l. is_lt (key_order (row_key_at bytes rows at) l) ≡ false) ((bytes_decides (row_key_at bytes rows k) q).0 t) (far bytes rows up k at le lt) in
    let e : true ≡ false = sym (ap is_lt less) ∙ h in cc)

-- and none from one with a higher key on
upper_none : (bytes : List ℕ) (rows : List Row) (q : List ℕ) (at k : ℕ) → IsSortedBy (row_below bytes) rows →
    key_order (row_key_at bytes rows at) q ≡ Greater → at ≤ k → k < length rows → bytes_eq (row_key_at bytes rows k) q ≡ false
upper_none bytes rows q at k up greater le lt =
    false_from_ne_true (bytes_eq (row_key_at bytes rows k) q) (λ t.
    let h : is_lt (key_order q (row_key_at bytes rows at)) ≡ false =
    subst (λ l. is_lt (key_order l (row_key_at bytes rows at)) ≡ false) ((bytes_decides (row_key_at bytes rows k) q).0 t) (far bytes rows up at k le lt) in
    let e : true ≡ false = sym (ap is_lt (keys_ordered.total.antisymm q (row_key_at bytes rows at) ∙ ap ordering_reverse greater)) ∙ h in cc)

-- so many halvings are left, of those that a count may take
abbrev pub HasLeft : ℕ → ℕ → ℕ → ℕ → Type 0
HasLeft n size old now = (k : ℕ) → n < 2 ^ k → (j : ℕ) × (size < 2 ^ j) × (now + j ≤ old + k)

-- a row with the key is from low up to high; comparisons are left to halve those rows
pub record Halves (bytes : List ℕ) (rows : List Row) (q : List ℕ) (low high old now : ℕ) : Type 0 where
  pub ordered : low ≤ high
  pub bound : high ≤ length rows
  pub counted : old ≤ now
  pub before : (k : ℕ) → k < low → bytes_eq (row_key_at bytes rows k) q ≡ false
  pub after : (k : ℕ) → high ≤ k → k < length rows → bytes_eq (row_key_at bytes rows k) q ≡ false
  pub left : HasLeft (length rows) (high - low) old now

halved : (size half old now k j : ℕ) → 0 < size → half + half ≤ size → size < 2 ^ j → now + j ≤ old + k → (i : ℕ) × (half < 2 ^ i) × (now + 1 + i ≤ old + k)
halved size half old now k zero some le a b = absurd (omega (arith, a))
halved size half old now k (suc i) some le a b = (i, omega (arith, a), omega arith)

-- one comparison, and at most half of the rows
half_left : (n size half old now : ℕ) → 0 < size → half + half ≤ size → HasLeft n size old now → HasLeft n half old (now + 1)
half_left n size half old now some le h = λ k lt.
    let was = h k lt in
    halved size half old now k was.0 some le was.1 was.2

pub halves_low : (bytes : List ℕ) (rows : List Row) (q : List ℕ) (low high old now at : ℕ) → IsSortedBy (row_below bytes) rows → Halves bytes rows q low high old now →
    low < high → at ≡ low + (high - low) / 2 → key_order (row_key_at bytes rows at) q ≡ Less → Halves bytes rows q (at + 1) high old (now + 1)
halves_low bytes rows q low high old now at up h some mid less = record {
  ordered = omega (arith, h.bound);
  bound = h.bound;
  counted = omega (arith, h.counted);
  before = λ k lt. lower_none bytes rows q at k up (omega (arith, h.bound)) less (omega arith);
  after = h.after;
  left = half_left (length rows) (high - low) (high - (at + 1)) old now (omega arith) (omega arith) h.left;
}

pub halves_high : (bytes : List ℕ) (rows : List Row) (q : List ℕ) (low high old now at : ℕ) → IsSortedBy (row_below bytes) rows → Halves bytes rows q low high old now →
    low < high → at ≡ low + (high - low) / 2 → key_order (row_key_at bytes rows at) q ≡ Greater → Halves bytes rows q low at old (now + 1)
halves_high bytes rows q low high old now at up h some mid greater = record {
  ordered = omega arith;
  bound = omega (arith, h.bound);
  counted = omega (arith, h.counted);
  before = h.before;
  after = λ k le lt. upper_none bytes rows q at k up greater le lt;
  left = half_left (length rows) (high - low) (at - low) old now (omega arith) (omega arith) h.left;
}

pub halves_none : (bytes : List ℕ) (rows : List Row) (q : List ℕ) (low high old now : ℕ) → Halves bytes rows q low high old now → high ≤ low → HasNoRow bytes rows q
halves_none bytes rows q low high old now h le = λ k d lt.
    subst (λ r. bytes_eq (row_key bytes r) q ≡ false) (get_or_default rows k no_row d lt)
    (⊎_elim (λ low'. h.before k low') (λ high'. h.after k (omega arith) lt) (cases_lt k low))

pub halves_found : (bytes : List ℕ) (rows : List Row) (q : List ℕ) (at : ℕ) → at < length rows → key_order (row_key_at bytes rows at) q ≡ Equal →
    Contains rows (get_or rows at no_row) × (row_key_at bytes rows at ≡ q)
halves_found bytes rows q at lt e = (Contains-get_or rows at no_row lt, keys_ordered.exact (row_key_at bytes rows at) q e)

-- the entries may be told by any list that has the same indexes under each key
pub rows_same : (bytes : List ℕ) (rows : List Row) (indexes : List ℕ) (es fs : List Entry) → ((q : List ℕ) → indexes_under es q ≡ indexes_under fs q) →
    HasRows bytes rows indexes es → HasRows bytes rows indexes fs
rows_same bytes rows indexes es fs e h = record {
  listed = All-weaker (IsListed bytes indexes es) (IsListed bytes indexes fs) (λ r l. l ∙ e (row_key bytes r)) rows h.listed;
  missing = λ q n. sym (e q) ∙ h.missing q n;
  hashed = h.hashed;
  sorted = h.sorted;
  few = h.few;
}

-- the rows of sorted pairs serve the entries from which the pairs come
pub rows_built : (bytes : List ℕ) (ps qs : List Pair) (rows : List Row) (indexes : List ℕ) (entries : List Entry) →
    HasRows bytes rows (map (λ p. p.index) qs) (entries_of bytes qs) → ((q : List ℕ) → indexes_under (entries_of bytes qs) q ≡ indexes_under (entries_of bytes ps) q) →
    indexes ≡ map (λ p. p.index) qs → entries ≡ entries_of bytes ps → HasRows bytes rows indexes entries
rows_built bytes ps qs rows indexes entries h same i e =
    rw (i, e) (rows_same bytes rows (map (λ p. p.index) qs) (entries_of bytes qs) (entries_of bytes ps) same h)

pub counted_built : (bytes : List ℕ) (ps qs : List Pair) (indexes : List ℕ) (entries : List Entry) → length qs ≡ length ps →
    indexes ≡ map (λ p. p.index) qs → entries ≡ entries_of bytes ps → length indexes ≡ length entries
counted_built bytes ps qs indexes entries l i e =
    ap length i ∙ length-map qs (λ p. p.index) ∙ l ∙ sym (length-map ps (pair_entry bytes)) ∙ ap length (sym e)
