-- The table that finds the row of a list: numbers that are put into it, and rows that are added.
use Rattle.std.proofs.Common.{◌≡◌, ◌≢◌, ℕ, ◌+◌, ◌<◌, ◌≤◌, List, length, slice_index, slice_set, ap, sym, ◌∙◌, subst, arith}
use Rattle.std.proofs.lemmas.Bool.{cases_lt}
use Rattle.std.proofs.lemmas.List.{get_or-set_same, get_or-set_other, length-set}
use Rattle.std.proofs.Math.Logic.{⊎_elim}
use Rattle.std.specs.List.Sorted.{IsStrictlyIncreasing}
use Rattle.lazy_dfa.specs.inner.Hashes.{list_hash}
use Rattle.lazy_dfa.specs.inner.Index.{IsFound, IsFree, IsIndexed, nth_list, nth_place}

-- a number was put at a free place of a table
module _ (table : List ℕ) (place row : ℕ) (within : place < length table) (none : slice_index table place ≡ 0) where
  abbrev pub with_row : List ℕ
  with_row = slice_set table place (row + 1)

  same_length : length with_row ≡ length table
  same_length = length-set table place (row + 1)

  here : slice_index with_row place ≡ row + 1
  here = get_or-set_same table place (row + 1) 0 within

  elsewhere : (p : ℕ) → p ≢ place → slice_index with_row p ≡ slice_index table p
  elsewhere p other = get_or-set_other table place p (row + 1) 0 other

  -- a place that held a row holds the same one
  taken_kept : (p : ℕ) → 0 < slice_index table p → slice_index with_row p ≡ slice_index table p
  taken_kept p some = elsewhere p (λ is. let zero = ap (slice_index table) is ∙ none in absurd (omega (arith, zero, some)))

  pub found_kept : (hash i : ℕ) → IsFound table hash i → IsFound with_row hash i
  found_kept hash i found = record {
    probe = found.probe;
    near = found.near;
    there = subst (λ n. slice_index with_row (nth_place hash found.probe n) ≡ i + 1) (sym same_length)
        (taken_kept (nth_place hash found.probe (length table)) (let there = found.there in omega (arith, there)) ∙ found.there);
    before = λ p lt. subst (λ n. 0 < slice_index with_row (nth_place hash p n)) (sym same_length)
        (subst (λ x. 0 < x) (sym (taken_kept (nth_place hash p (length table)) (found.before p lt))) (found.before p lt));
  }

  pub found_here : (hash : ℕ) → IsFree table hash place → IsFound with_row hash row
  found_here hash free = record {
    probe = free.probe;
    near = free.near;
    there = subst (λ n. slice_index with_row (nth_place hash free.probe n) ≡ row + 1) (sym same_length) (ap (slice_index with_row) (sym free.is) ∙ here);
    before = λ p lt. subst (λ n. 0 < slice_index with_row (nth_place hash p n)) (sym same_length)
        (subst (λ x. 0 < x) (sym (taken_kept (nth_place hash p (length table)) (free.before p lt))) (free.before p lt));
  }

-- a row is found by a list that is equal to its own
found_by : (table : List ℕ) (seed : ℕ) (one other : List ℕ) (i : ℕ) → other ≡ one → IsFound table (list_hash seed one) i → IsFound table (list_hash seed other) i
found_by table seed one other i is = subst (λ l. IsFound table (list_hash seed l) i) (sym is)

-- lists stand elsewhere, and are the same
pub index_kept : (table : List ℕ) (seed : ℕ) (starts starts' lists lists' : List ℕ) → length starts' ≡ length starts → ((i : ℕ) → i < length starts → nth_list starts' lists' i ≡ nth_list starts lists i)
    → IsIndexed table seed starts lists → IsIndexed table seed starts' lists'
index_kept table seed starts starts' lists lists' len same index = record {
  some = index.some;
  found = λ i lt. found_by table seed (nth_list starts lists i) (nth_list starts' lists' i) i (same i (omega (arith, len, lt))) (index.found i (omega (arith, len, lt)));
  ordered = λ i lt. subst IsStrictlyIncreasing (sym (same i (omega (arith, len, lt)))) (index.ordered i (omega (arith, len, lt)));
  distinct = λ i j lt small is. index.distinct i j lt (omega (arith, len, small)) (sym (same i (omega (arith, len, lt, small))) ∙ is ∙ same j (omega (arith, len, small)));
}

-- a row was added, whose list no row has
pub index_added : (table : List ℕ) (seed : ℕ) (starts starts' lists lists' list : List ℕ) (place : ℕ) → length starts' ≡ length starts + 1 → ((i : ℕ) → i < length starts → nth_list starts' lists' i ≡ nth_list starts lists i)
    → nth_list starts' lists' (length starts) ≡ list → IsFree table (list_hash seed list) place → IsStrictlyIncreasing list → ((i : ℕ) → i < length starts → nth_list starts lists i ≡ list → ⊥)
    → IsIndexed table seed starts lists → IsIndexed (slice_set table place (length starts + 1)) seed starts' lists'
index_added table seed starts starts' lists lists' list place len same last free ordered none index = record {
  some = (let is = length-set table place (n + 1) in let some = index.some in omega (arith, is, some));
  found = λ i lt. ⊎_elim {C = IsFound table' (list_hash seed (nth_list starts' lists' i)) i}
      (λ low. found_by table' seed (nth_list starts lists i) (nth_list starts' lists' i) i (same i low) (found_kept table place n free.within free.none (list_hash seed (nth_list starts lists i)) i (index.found i low)))
      (λ high. subst (λ j. IsFound table' (list_hash seed (nth_list starts' lists' j)) j) (sym (past i lt high))
      (found_by table' seed list (nth_list starts' lists' n) n last (found_here table place n free.within free.none (list_hash seed list) free)))
      (cases_lt i n);
  ordered = λ i lt. ⊎_elim {C = IsStrictlyIncreasing (nth_list starts' lists' i)}
      (λ low. subst IsStrictlyIncreasing (sym (same i low)) (index.ordered i low))
      (λ high. subst IsStrictlyIncreasing (sym (ap (nth_list starts' lists') (past i lt high) ∙ last)) ordered)
      (cases_lt i n);
  distinct = λ i j lt small is. ⊎_elim {C = ⊥}
      (λ low. index.distinct i j lt low (sym (same i (omega (arith, lt, low))) ∙ is ∙ same j low))
      (λ high. none i (omega (arith, len, lt, small)) (sym (same i (omega (arith, len, lt, small))) ∙ is ∙ ap (nth_list starts' lists') (past j small high) ∙ last))
      (cases_lt j n);
}
  where
    n : ℕ
    n = length starts

    table' : List ℕ
    table' = slice_set table place (n + 1)

    past : (i : ℕ) → i < length starts' → n ≤ i → i ≡ n
    past i lt high = omega (arith, len, lt, high)
