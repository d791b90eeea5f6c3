-- Laws of the indexes that sets return.
use Rattle.std.proofs.Common.{◌≡◌, ℕ, zero, suc, ◌+◌, ◌<◌, List, [], ◌∷◌, ◌++◌, length, Bool, true, false, cond, Option, Some, refl, ap, sym, ◌∙◌, arith, length-append}
use Rattle.std.specs.Prelude.{Contains, filter, slice_get}
use Rattle.std.specs.List.{range_with_len}
use Rattle.std.proofs.lemmas.List.{append_assoc}
use Rattle.std.specs.Option.{option_map_or}
use Rattle.globset_glob.specs.GlobMatches.{GlobValue}
use Rattle.globset_glob.specs.Texts.{AllBytes}
use Rattle.set_matcher.specs.Excluded.{is_reported}
use Rattle.set_matcher.specs.Answer.{matching_indexes}
use Rattle.set_matcher.specs.Indexes.{passes_at}
use Rattle.globset.specs.Laws.{AddKeeps, OrderRenames, OneGlobSet, BelowHasPaths, BelowEnds}
use Rattle.set_matcher.proofs.lemmas.Indexes.{filter_more, passing_is_contained, contained_passes, passes_within}

-- the list has a glob at this index, and it is reported
abbrev is_reported_at : List GlobValue → List ℕ → ℕ → Bool
is_reported_at globs path i = passes_at (λ g. is_reported g path) globs i

reported_is_contained : (globs : List GlobValue) (path : List ℕ) (i : ℕ) → i < length globs → is_reported_at globs path i ≡ true → Contains (matching_indexes globs path) i
unfolding matching_indexes
reported_is_contained globs path i h p = passing_is_contained (λ g. is_reported g path) globs i h p

contained_is_reported : (globs : List GlobValue) (path : List ℕ) (i : ℕ) → Contains (matching_indexes globs path) i → (i < length globs) × (is_reported_at globs path i ≡ true)
unfolding matching_indexes
contained_is_reported globs path i h = contained_passes (λ g. is_reported g path) globs i h

reported_within : (globs : List GlobValue) (path : List ℕ) (i : ℕ) → is_reported_at globs path i ≡ true → i < length globs
reported_within globs path i h = passes_within (λ g. is_reported g path) globs i h

-- ---- one more glob at the end

slice_get-front : (xs ys : List GlobValue) (i : ℕ) → i < length xs → slice_get (xs ++ ys) i ≡ slice_get xs i
slice_get-front [] ys i h = absurd (omega arith)
slice_get-front (x ∷ xs) ys zero h = refl
slice_get-front (x ∷ xs) ys (suc i) h = slice_get-front xs ys i (omega arith)

slice_get-last : (xs : List GlobValue) (x : GlobValue) → slice_get (xs ++ x ∷ []) (length xs) ≡ Some x
slice_get-last [] x = refl
slice_get-last (y ∷ xs) x = slice_get-last xs x

-- two tests that agree below n keep the same numbers below n
filter_agree_below : (p q : ℕ → Bool) (n : ℕ) → ((i : ℕ) → i < n → p i ≡ q i) → filter p (range_with_len 0 n) ≡ filter q (range_with_len 0 n)
filter_agree_below p q zero h = refl
filter_agree_below p q (suc n) h =
    let more : suc n ≡ n + 1 = omega arith in
    let here : p n ≡ q n = h n (omega arith) in
    let front = filter_agree_below p q n (λ i l. h i (omega arith)) in
    ap (λ (k : ℕ). filter p (range_with_len 0 k)) more ∙ filter_more p n
    ∙ (λ i. front i ++ cond (here i) (n ∷ []) [])
    ∙ sym (filter_more q n) ∙ ap (λ (k : ℕ). filter q (range_with_len 0 k)) (sym more)

pub adding_keeps : AddKeeps
unfolding matching_indexes
adding_keeps globs g path =
    let n = length globs in
    let more : length (globs ++ g ∷ []) ≡ n + 1 = simp length-append (omega arith) in
    let front = filter_agree_below (is_reported_at (globs ++ g ∷ []) path) (is_reported_at globs path) n
    (λ i h. ap (λ (o : Option GlobValue). option_map_or (λ x. is_reported x path) o false) (slice_get-front globs (g ∷ []) i h)) in
    let last : is_reported_at (globs ++ g ∷ []) path n ≡ is_reported g path = ap (λ (o : Option GlobValue). option_map_or (λ x. is_reported x path) o false) (slice_get-last globs g) in
    ap (λ (k : ℕ). filter (is_reported_at (globs ++ g ∷ []) path) (range_with_len 0 k)) more ∙ filter_more (is_reported_at (globs ++ g ∷ []) path) n
    ∙ (λ i. front i ++ cond (last i) (n ∷ []) [])

-- ---- another order

pub order_only_renames : OrderRenames
order_only_renames first second to path reordered j = (
  λ held.
      let a = contained_is_reported second path j held in
      let from = reordered.onto j a.0 in
      let same : is_reported_at second path (to from.0) ≡ is_reported_at first path from.0 = ap (λ (o : Option GlobValue). option_map_or (λ x. is_reported x path) o false) (reordered.same_glob from.0 from.1) in
      (from.0, reported_is_contained first path from.0 from.1 (sym same ∙ ap (is_reported_at second path) from.2 ∙ a.1), from.2),
  λ from.
      let a = contained_is_reported first path from.0 from.1 in
      let same : is_reported_at second path (to from.0) ≡ is_reported_at first path from.0 = ap (λ (o : Option GlobValue). option_map_or (λ x. is_reported x path) o false) (reordered.same_glob from.0 a.0) in
      let yes : is_reported_at second path j ≡ true = ap (is_reported_at second path) (sym from.2) ∙ same ∙ a.1 in
      reported_is_contained second path j (reported_within second path j yes) yes,
)

-- ---- one glob

pub one_glob_is_reported : OneGlobSet
unfolding matching_indexes
one_glob_is_reported g path h = rw h refl

-- ---- below a folder

pub below_has_paths : BelowHasPaths
below_has_paths globs folder rest bytes some = (rest, bytes, some)

bytes_joined : (xs ys : List ℕ) → AllBytes xs → AllBytes ys → AllBytes (xs ++ ys)
bytes_joined [] ys h g = g
bytes_joined (x ∷ xs) ys h g = (h.0, bytes_joined xs ys h.1 g)

pub below_ends : BelowEnds
below_ends globs folder rest bytes none (more, bytes_of_more, some) =
    let small : 47 < 256 = omega arith in
    none (rest ++ 47 ∷ more, bytes_joined rest (47 ∷ more) bytes (small, bytes_of_more), λ nil. some (ap (matching_indexes globs) (append_assoc folder (47 ∷ rest) (47 ∷ more)) ∙ nil))
