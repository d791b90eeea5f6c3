-- Lists of indexes, and which of them are left out.
use Rattle.std.proofs.Common.{◌≡◌, ◌≢◌, ℕ, zero, suc, ◌+◌, ◌<◌, ◌≤◌, ◌⊎◌, inl, inr, List, [], ◌∷◌, ◌++◌, length, take, drop, refl, ap, sym, subst, ◌∙◌, arith}
use Rattle.std.specs.Prelude.{IfOk, OnOk, Contains, Result, Ok, Err, slice_index, slice_index_or}
use Rattle.std.specs.List.{range_with_len}
use Rattle.std.proofs.lemmas.List.Elements.{Contains-append_left, Contains-append_right, Contains-append_cases}
use Rattle.std.proofs.Math.Logic.{⊎_elim}
use Rattle.bit_sets.proofs.lemmas.IndexSets.{in_one}

-- the default is of no effect
pub at_any : (xs : List ℕ) (j d : ℕ) → j < length xs → slice_index xs j ≡ slice_index_or xs j d
at_any [] j d lt = absurd (omega arith)
at_any (x ∷ xs) zero d lt = refl
at_any (x ∷ xs) (suc j) d lt = at_any xs j d (omega arith)

-- what holds of each number by its place holds of each number
pub each_contained : (P : ℕ → Type 0) (xs : List ℕ) (i : ℕ) → length xs ≤ i → ((j : ℕ) → j < i → P (slice_index xs j)) → (k : ℕ) → Contains xs k → P k
each_contained P xs i all each k (j, lt, is) = subst P (at_any xs j k lt ∙ is) (each j (omega arith))

pub contains_index : (xs : List ℕ) (i : ℕ) → i < length xs → Contains xs (slice_index xs i)
contains_index xs i lt = (i, lt, sym (at_any xs i (slice_index xs i) lt))

pub contains_none : (k : ℕ) → Contains [] k → ⊥
contains_none k (i, lt, is) = omega arith

-- Indexes of which one is left out.
abbrev pub rest_of : List ℕ → ℕ → List ℕ
rest_of set i = take i set ++ drop (suc i) set

pub rest_is : (items set now : List ℕ) (i : ℕ) → now ≡ set → items ≡ take i now ++ drop (i + 1) now → items ≡ rest_of set i
rest_is items set now i same is =
    let one : i + 1 ≡ suc i = omega arith in
    is ∙ ap (λ n. take i now ++ drop n now) one ∙ ap (λ xs. rest_of xs i) same

pub contains_rest : (set : List ℕ) (i x : ℕ) → Contains (rest_of set i) x → Contains set x
contains_rest [] i x (j, lt, is) = by i (j, lt, is)
  where
    by : (n : ℕ) → Contains (rest_of [] n) x → Contains [] x
    by zero h = h
    by (suc n) h = h
contains_rest (y ∷ set) zero x (j, lt, is) = (suc j, omega arith, is)
contains_rest (y ∷ set) (suc i) x (zero, lt, is) = (0, omega arith, is)
contains_rest (y ∷ set) (suc i) x (suc j, lt, is) =
    let (n, small, same) = contains_rest set i x (j, omega arith, is) in
    (suc n, omega arith, same)

-- each other index is still there
pub rest_contains : (set : List ℕ) (i x : ℕ) → i < length set → Contains set x → x ≢ slice_index set i → Contains (rest_of set i) x
rest_contains [] i x lt at other = absurd (omega arith)
rest_contains (y ∷ set) zero x lt (zero, small, is) other = absurd (other (sym is))
rest_contains (y ∷ set) zero x lt (suc j, small, is) other = (j, omega arith, is)
rest_contains (y ∷ set) (suc i) x lt (zero, small, is) other = (0, omega arith, is)
rest_contains (y ∷ set) (suc i) x lt (suc j, small, is) other =
    let (n, less, same) = rest_contains set i x (omega arith) (j, omega arith, is) other in
    (suc n, omega arith, same)

-- an index is the one that is left out, or still there
pub left_or_kept : (set : List ℕ) (i x : ℕ) → i < length set → Contains set x → (slice_index set i ≡ x) ⊎ Contains (rest_of set i) x
left_or_kept [] i x lt at = absurd (omega arith)
left_or_kept (y ∷ set) zero x lt (zero, small, is) = inl is
left_or_kept (y ∷ set) zero x lt (suc j, small, is) = inr (j, omega arith, is)
left_or_kept (y ∷ set) (suc i) x lt (zero, small, is) = inr (0, omega arith, is)
left_or_kept (y ∷ set) (suc i) x lt (suc j, small, is) = ⊎_elim {C = (slice_index set i ≡ x) ⊎ Contains (y ∷ rest_of set i) x}
    inl
    (λ (n, less, same). inr (suc n, omega arith, same))
    (left_or_kept set i x (omega arith) (j, omega arith, is))

-- what is known while rivals are put together: the rivals so far, and the rest
pub record IsSplit (others by rest : List ℕ) : Type 0 where
  pub early : (k : ℕ) → Contains by k → Contains others k
  pub late : (k : ℕ) → Contains rest k → Contains others k
  pub all : (k : ℕ) → Contains others k → Contains by k ⊎ Contains rest k

pub split_first : (others : List ℕ) → IsSplit others [] others
split_first others = record {
  early = λ k at. absurd (contains_none k at);
  late = λ k at. at;
  all = λ k at. inr at;
}

pub split_next : (others by rest : List ℕ) (i : ℕ) → i < length rest → IsSplit others by rest → IsSplit others (by ++ slice_index rest i ∷ []) (rest_of rest i)
split_next others by rest i lt is = record {
  early = λ k at. ⊎_elim {C = Contains others k} (is.early k)
      (λ new. subst (Contains others) (in_one (slice_index rest i) k new) (is.late (slice_index rest i) (contains_index rest i lt)))
      (Contains-append_cases by (slice_index rest i ∷ []) k at);
  late = λ k at. is.late k (contains_rest rest i k at);
  all = λ k at. ⊎_elim {C = Contains (by ++ slice_index rest i ∷ []) k ⊎ Contains (rest_of rest i) k}
      (λ old. inl (Contains-append_left by (slice_index rest i ∷ []) k old))
      (λ later. ⊎_elim {C = Contains (by ++ slice_index rest i ∷ []) k ⊎ Contains (rest_of rest i) k}
      (λ same. inl (Contains-append_right by (slice_index rest i ∷ []) k (0, omega arith, same)))
      (λ kept. inr kept)
      (left_or_kept rest i k lt later))
      (is.all k at);
}

pub split_taken : (others by rest more fewer : List ℕ) (i x : ℕ) → i < length rest → more ≡ by ++ x ∷ [] → x ≡ slice_index_or rest i x → fewer ≡ rest_of rest i → IsSplit others by rest → IsSplit others more fewer
split_taken others by rest more fewer i x lt is same left split =
    subst (λ (xs : List ℕ). IsSplit others xs fewer) (sym (is ∙ ap (λ (y : ℕ). by ++ y ∷ []) (same ∙ sym (at_any rest i x lt))))
    (subst (λ (ys : List ℕ). IsSplit others (by ++ slice_index rest i ∷ []) ys) (sym left) (split_next others by rest i lt split))

pub rest_before : (set : List ℕ) (i j : ℕ) → i < length set → j < i → slice_index (rest_of set i) j ≡ slice_index set j
rest_before [] i j lt less = absurd (omega arith)
rest_before (y ∷ set) zero j lt less = absurd (omega arith)
rest_before (y ∷ set) (suc i) zero lt less = refl
rest_before (y ∷ set) (suc i) (suc j) lt less = rest_before set i j (omega arith) (omega arith)

pub length_rest : (set : List ℕ) (i : ℕ) → i < length set → length (rest_of set i) + 1 ≡ length set
length_rest [] i lt = absurd (omega arith)
length_rest (y ∷ set) zero lt = omega arith
length_rest (y ∷ set) (suc i) lt = let less = length_rest set i (omega arith) in omega arith

-- numbers from one on
pub range_more : (a n : ℕ) → range_with_len a (n + 1) ≡ range_with_len a n ++ (a + n) ∷ []
range_more a n = ap (range_with_len a) one ∙ by a n
  where
    one : n + 1 ≡ suc n
    one = omega arith

    by : (b m : ℕ) → range_with_len b (suc m) ≡ range_with_len b m ++ (b + m) ∷ []
    by b zero = let same : b ≡ b + 0 = omega arith in ap (λ x. x ∷ []) same
    by b (suc m) = let same : (b + 1) + m ≡ b + suc m = omega arith in ap (λ xs. b ∷ xs) (by (b + 1) m ∙ ap (λ x. range_with_len (b + 1) m ++ x ∷ []) same)

pub range_below : (a n k : ℕ) → Contains (range_with_len a n) k → k < a + n
range_below a zero k (i, lt, is) = absurd (omega arith)
range_below a (suc n) k (zero, lt, is) = omega arith
range_below a (suc n) k (suc i, lt, is) = let low = range_below (a + 1) n k (i, omega arith, is) in omega arith

pub if_ok_more : {X E : Type 0} (P Q : X → Type 0) (r : Result X E) → ((x : X) → P x → Q x) → IfOk r P → IfOk r Q
if_ok_more P Q (Ok x) more is = more x is
if_ok_more P Q (Err e) more is = is

pub on_ok_more : {X E : Type 0} (P Q : Type 0) (r : Result X E) → (P → Q) → OnOk r P → OnOk r Q
on_ok_more P Q (Ok x) more is = more is
on_ok_more P Q (Err e) more is = is
