-- Ranges of lists.
use Rattle.std.proofs.Common.{◌≡◌, ℕ, zero, suc, ◌+◌, ◌-◌, ◌<◌, ◌≤◌, List, [], ◌∷◌, ◌++◌, length, map, take, drop, get_or, refl, sym, ap, subst, ◌∙◌, arith, length-append, ⊎_elim}
use Rattle.std.specs.Prelude.{slice_range}
use Rattle.std.specs.List.{AllWithin, AllByRecursion}
use Rattle.std.specs.List.Sorted.{IsStrictlyIncreasing}
use Rattle.std.proofs.Math.Seq.{take-add, take-append_seam}
use Rattle.std.proofs.lemmas.Bool.{cases_lt}
use Rattle.std.proofs.lemmas.List.{drop-drop, get_or-drop, take-map, drop-map, take-append-le, drop-append-le, take_all, length-drop, length-take, get_or_append_left, get_or-append-add}

all_taken : {X : Type 0} (P : X → Type 0) (xs : List X) (n : ℕ) → ((k : ℕ) (d : X) → k < n → P (get_or xs k d)) → AllByRecursion P (take n xs)
all_taken P [] zero h = tt
all_taken P [] (suc n) h = tt
all_taken P (x ∷ xs) zero h = tt
all_taken P (x ∷ xs) (suc n) h = (h 0 x (omega arith), all_taken P xs n (λ k d l. h (suc k) d (omega arith)))

pub all_in_range : {X : Type 0} (P : X → Type 0) (xs : List X) (i j : ℕ) → AllWithin P xs i j → AllByRecursion P (slice_range xs i j)
all_in_range P xs i j h =
    all_taken P (drop i xs) (j - i) (λ k d l. subst P (sym (get_or-drop i xs k d)) (h (i + k) d (omega arith) (omega arith)))

pub range_split : {X : Type 0} (xs : List X) (i j k : ℕ) → i ≤ j → j ≤ k → slice_range xs i k ≡ slice_range xs i j ++ slice_range xs j k
range_split xs i j k a b =
    let n : k - i ≡ (j - i) + (k - j) = omega arith in
    let m : i + (j - i) ≡ j = omega arith in
    ap (λ l. take l (drop i xs)) n
    ∙ take-add (j - i) (k - j) (drop i xs)
    ∙ ap (λ l. take (j - i) (drop i xs) ++ take (k - j) l) (drop-drop (j - i) i xs ∙ ap (λ l. drop l xs) m)

pub range-map : {X Y : Type 0} (f : X → Y) (xs : List X) (i j : ℕ) → slice_range (map f xs) i j ≡ map f (slice_range xs i j)
range-map f xs i j = ap (take (j - i)) (drop-map f i xs) ∙ take-map f (j - i) (drop i xs)

pub range_long : {X : Type 0} (xs : List X) (i j : ℕ) → i ≤ j → j ≤ length xs → length (slice_range xs i j) ≡ j - i
range_long xs i j a b = omega (arith, length-take (j - i) (drop i xs), length-drop i xs)

-- a range of the first list
pub range_left : {X : Type 0} (xs ys : List X) (i j : ℕ) → i ≤ j → j ≤ length xs → slice_range (xs ++ ys) i j ≡ slice_range xs i j
range_left xs ys i j a b =
    ap (take (j - i)) (drop-append-le i xs ys (omega arith))
    ∙ take-append-le (j - i) (drop i xs) ys (omega (arith, length-drop i xs))

drop_whole : {X : Type 0} (xs ys : List X) → drop (length xs) (xs ++ ys) ≡ ys
drop_whole [] ys = refl
drop_whole (x ∷ xs) ys = drop_whole xs ys

-- the second list
pub range_right : {X : Type 0} (xs ys : List X) (i j : ℕ) → i ≡ length xs → j ≡ length xs + length ys → slice_range (xs ++ ys) i j ≡ ys
range_right xs ys i j a b =
    ap (λ n. take (j - i) (drop n (xs ++ ys))) a
    ∙ ap (take (j - i)) (drop_whole xs ys)
    ∙ take_all (j - i) ys (omega arith)

pub all_append : {X : Type 0} (P : X → Type 0) (xs ys : List X) → AllByRecursion P xs → AllByRecursion P ys → AllByRecursion P (xs ++ ys)
all_append P [] ys a b = b
all_append P (x ∷ xs) ys a b = (a.0, all_append P xs ys a.1 b)

pub all_weaker : {X : Type 0} (P Q : X → Type 0) → ((x : X) → P x → Q x) → (xs : List X) → AllByRecursion P xs → AllByRecursion Q xs
all_weaker P Q f [] h = tt
all_weaker P Q f (x ∷ xs) h = (f x h.0, all_weaker P Q f xs h.1)

pub all_get : {X : Type 0} (P : X → Type 0) (xs : List X) (k : ℕ) (d : X) → AllByRecursion P xs → k < length xs → P (get_or xs k d)
all_get P [] k d h l = absurd (omega arith)
all_get P (x ∷ xs) zero d h l = h.0
all_get P (x ∷ xs) (suc k) d h l = all_get P xs k d h.1 (omega arith)

-- one more number, above all others
pub rising_push : (xs : List ℕ) (x : ℕ) → IsStrictlyIncreasing xs → AllByRecursion (λ y. y < x) xs → IsStrictlyIncreasing (xs ++ x ∷ [])
rising_push xs x h a k l =
    ⊎_elim
    (λ (b : k + 1 < length xs). omega (arith, h k b, get_or_append_left xs (x ∷ []) 0 k (omega arith), get_or_append_left xs (x ∷ []) 0 (k + 1) b))
    (λ (b : length xs ≤ k + 1).
    let n : length xs + 0 ≡ k + 1 = omega (arith, length-append xs (x ∷ [])) in
    omega (arith, all_get (λ y. y < x) xs k 0 a (omega arith), get_or_append_left xs (x ∷ []) 0 k (omega arith), get_or-append-add xs (x ∷ []) 0 0, ap (λ i. get_or (xs ++ x ∷ []) i 0) n))
    (cases_lt (k + 1) (length xs))

-- each number is below all later ones
pub rising_far : (xs : List ℕ) → IsStrictlyIncreasing xs → (j i : ℕ) → i < j → j < length xs → get_or xs i 0 < get_or xs j 0
rising_far xs h zero i a b = absurd (omega arith)
rising_far xs h (suc j) i a b =
    let n : j + 1 ≡ suc j = omega arith in
    let last = h j (omega arith) in
    let last_is = ap (λ m. get_or xs m 0) n in
    ⊎_elim
    (λ (c : i < j). omega (arith, rising_far xs h j i c (omega arith), last, last_is))
    (λ (c : j ≤ i). let s : i ≡ j = omega arith in omega (arith, ap (λ m. get_or xs m 0) s, last, last_is))
    (cases_lt i j)

pub taken : {X : Type 0} (n : ℕ) (xs ys : List X) → length xs ≡ n → take n (xs ++ ys) ≡ xs
taken n xs ys e = ap (λ k. take k (xs ++ ys)) (sym e) ∙ take-append_seam xs ys
