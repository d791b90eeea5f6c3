-- The folders of keys: the start of a key, the place of a text in the order, and what a list of them says.
use Rattle.std.proofs.Common.{◌≡◌, ℕ, zero, suc, ◌+◌, ◌-◌, ◌≤◌, ◌<◌, ◌⊎◌, inl, inr, Option, Some, None, Bool, true, false, cond, List, [], ◌∷◌, ◌++◌, map, length, take, drop, get_or, length-drop, Vec, IsTrue, refl, ap, sym, subst, ◌∙◌, append_assoc, arith}
use Rattle.std.specs.Prelude.{◌↔◌, Contains, is_ok}
use Rattle.std.specs.List.{AllByRecursion, dedup, dedup_from, slice_get}
use Rattle.std.specs.List.Sorted.{IsBinarySearchResult, IsNonDecreasingBy, IsPermutation, IsSearchInRange, IsSorted, IsStrictlySortedBy}
use Rattle.std.specs.Str.{bytes_eq}
use Rattle.std.specs.Cmp.Lexicographic.{slice_cmp, bytes_decides, nat_list_eq_equiv, on_texts, texts_ties}
use Rattle.std.specs.Ordering.{nat_cmp, ordering_then, ordering_index, on, MatchOrdering}
use Rattle.std.specs.declared.cmp.Ordering.{Ordering}
use Rattle.std.specs.declared.cmp.Ordering.TheVariants.{Less, Equal, Greater}
use Rattle.std.specs.declared.result.Result.{Result}
use Rattle.std.specs.declared.result.Result.TheVariants.{Ok, Err}
use Rattle.std.proofs.Math.Logic.{⊎_elim}
use Rattle.std.proofs.Math.Seq.{take-suc}
use Rattle.std.proofs.lemmas.Bool.{cases_lt}
use Rattle.std.proofs.lemmas.Cmp.{ranked}
use Rattle.std.proofs.lemmas.Option.{get_or_from_slice_get, slice_get_within}
use Rattle.std.proofs.lemmas.List.{length-append, length-map, get_or-map, map-append, take-append-drop}
use Rattle.std.proofs.lemmas.List.Elements.{Contains-append_cases, Contains-append_left, Contains-append_right}
use Rattle.std.proofs.lemmas.List.Sorted.{Contains-permutation, IsPermutation-map, IsPermutation-sym}
use Rattle.std.proofs.lemmas.List.Kept.{Contains-dedup, Contains-from_dedup, IsStrictlySortedBy-dedup}
use denote.Ref.{Bor}
use Rattle.glob_path.specs.Entries.{Entry, entry}
use Rattle.glob_path.specs.inner.Pairs.{key_at}
use Rattle.glob_path.specs.declared.trie.Text.{Text}
use Rattle.glob_path.specs.Texts.{entry_of}
use Rattle.glob_path.specs.Below.{BeginsWith, folder_start}
use Rattle.glob_path.specs.PathParts.{after_position, is_separator, last_component, last_position, with_first}
use Rattle.set_matcher.specs.inner.KeysBelow.{HasKey}
use Rattle.set_matcher.specs.inner.Folders.{AddsFolder, AreFolders, AreRising, HaveFolders, IsBelow, SomeBelow, bytes_of, place_of, shown_of, start_of}

-- ---- keys below a folder

-- the key has a `/` after the folder
slash_after : (f rest : List ℕ) → get_or ((f ++ 47 ∷ []) ++ rest) (length f) 0 ≡ 47
slash_after [] rest = refl
slash_after (x ∷ f) rest = slash_after f rest

at_slash : (f key : List ℕ) → IsBelow f key → get_or key (length f) 0 ≡ 47
at_slash f key h = subst (λ k. get_or k (length f) 0 ≡ 47) h.1 (slash_after f h.0)

shorter : (f key : List ℕ) → IsBelow f key → length f < length key
shorter f key h = omega (arith, length-append f (47 ∷ []), length-append (f ++ 47 ∷ []) h.0, ap length h.1)

-- the last component is after each `/`
after_slash : (key : List ℕ) (i : ℕ) → i < length key → get_or key i 0 ≡ 47 → i + length (last_component key) < length key
after_slash [] i lt is = absurd (omega (arith, lt))
after_slash (c ∷ cs) zero lt is = first (last_position is_separator cs)
  where
    first : (o : Option ℕ) → 0 + length (after_position (c ∷ cs) (with_first o (is_separator c))) < length (c ∷ cs)
    first (Some k) = omega (arith, length-drop (suc k + 1) (c ∷ cs))
    first None = subst (λ x. 0 + length (after_position (x ∷ cs) (with_first None (is_separator x))) < length (x ∷ cs)) (sym is) (omega (arith, length-drop (0 + 1) (47 ∷ cs)))
after_slash (c ∷ cs) (suc j) lt is = later (last_position is_separator cs) (after_slash cs j (omega (arith, lt)) is)
  where
    later : (o : Option ℕ) → j + length (after_position cs o) < length cs → suc j + length (after_position (c ∷ cs) (with_first o (is_separator c))) < length (c ∷ cs)
    later (Some k) h = omega (arith, h, length-drop (suc k + 1) (c ∷ cs), length-drop (k + 1) cs)
    later None h = absurd (omega (arith, h))

take_begins : (start rest : List ℕ) (n : ℕ) → length start ≤ n → BeginsWith (take n (start ++ rest)) start
take_begins [] rest n le = (take n rest, refl)
take_begins (x ∷ start) rest zero le = absurd (omega (arith, le))
take_begins (x ∷ start) rest (suc n) le = let r = take_begins start rest n (omega (arith, le)) in (r.0, ap (λ y. x ∷ y) r.1)

-- a key is below the folders that its start is below
pub start_tells : (f key : List ℕ) → IsBelow f (start_of key) ↔ IsBelow f key
start_tells f key = (
  λ h. (h.0 ++ drop cut key, sym (append_assoc (folder_start f) h.0 (drop cut key)) ∙ ap (λ x. x ++ drop cut key) h.1 ∙ take-append-drop cut key),
  λ h. subst (λ k. BeginsWith (take cut k) (folder_start f)) h.1
      (take_begins (folder_start f) h.0 cut (omega (arith, length-append f (47 ∷ []), after_slash key (length f) (shorter f key h) (at_slash f key h)))),
)
  where
    cut : ℕ
    cut = length key - length (last_component key)

-- ---- the place of a text

then_twice : (o p q : Ordering) → ordering_then (ordering_then o p) q ≡ ordering_then o (ordering_then p q)
then_twice Less p q = refl
then_twice Equal p q = refl
then_twice Greater p q = refl

then_equal : (o : Ordering) → ordering_then o Equal ≡ o
then_equal Less = refl
then_equal Equal = refl
then_equal Greater = refl

-- of a text that ends within the folder
pub short_place : (text f : List ℕ) → length text ≤ length f → ordering_then (slice_cmp nat_cmp text f) Less ≡ place_of text (folder_start f)
short_place [] [] le = refl
short_place [] (c ∷ f) le = refl
short_place (b ∷ text) [] le = absurd (omega (arith, le))
short_place (b ∷ text) (c ∷ f) le = then_twice (nat_cmp b c) (slice_cmp nat_cmp text f) Less ∙ ap (ordering_then (nat_cmp b c)) (short_place text f (omega (arith, le)))

-- of a longer one
pub long_place : (text f : List ℕ) (d : ℕ) → length f < length text
    → ordering_then (slice_cmp nat_cmp (take (length f) text) f) (nat_cmp (get_or text (length f) d) 47) ≡ place_of text (folder_start f)
long_place [] f d lt = absurd (omega (arith, lt))
long_place (b ∷ text) [] d lt = sym (then_equal (nat_cmp b 47))
long_place (b ∷ text) (c ∷ f) d lt =
    then_twice (nat_cmp b c) (slice_cmp nat_cmp (take (length f) text) f) (nat_cmp (get_or text (length f) d) 47) ∙ ap (ordering_then (nat_cmp b c)) (long_place text f d (omega (arith, lt)))

both_equal : (o p : Ordering) → ordering_then o p ≡ Equal → (o ≡ Equal) × (p ≡ Equal)
both_equal Less p e = absurd (cc)
both_equal Equal p e = (refl, e)
both_equal Greater p e = absurd (cc)

tied : (a b : ℕ) (o : Ordering) → MatchOrdering o (a < b) (a ≡ b) (b < a) → (o ≡ Equal) ↔ (a ≡ b)
tied a b Less m = (λ e. absurd (cc), λ e. absurd (omega (arith, m, e)))
tied a b Equal m = (λ e. m, λ e. refl)
tied a b Greater m = (λ e. absurd (cc), λ e. absurd (omega (arith, m, e)))

-- a text that begins with the start is among those
pub place_tells : (text start : List ℕ) → (place_of text start ≡ Equal) ↔ BeginsWith text start
place_tells text [] = (λ e. (text, refl), λ h. refl)
place_tells [] (s ∷ start) = (λ e. absurd (cc), λ h. absurd (omega (arith, ap length h.1)))
place_tells (b ∷ text) (s ∷ start) = (
  λ e. let both = both_equal (nat_cmp b s) (place_of text start) e in
      let rest = (place_tells text start).0 both.1 in
      let same = (tied b s (nat_cmp b s) (ranked b s (nat_cmp b s) refl)).0 both.0 in
      (rest.0, (λ i. sym same i ∷ rest.1 i)),
  λ h. let is = h.1 in
      let same : b ≡ s = cc in
      let rest : start ++ h.0 ≡ text = cc in
      let first = (tied b s (nat_cmp b s) (ranked b s (nat_cmp b s) refl)).1 same in
      ap (λ o. ordering_then o (place_of text start)) first ∙ (place_tells text start).1 (h.0, rest),
)

low_index : (o : Ordering) → ordering_index o ≤ 2
low_index Less = omega arith
low_index Equal = omega arith
low_index Greater = omega arith

step_rises : (a b s : ℕ) (o p q x y z : Ordering) → MatchOrdering o (a < s) (a ≡ s) (s < a) → MatchOrdering p (b < s) (b ≡ s) (s < b) → MatchOrdering q (a < b) (a ≡ b) (b < a)
    → ordering_then q z ≡ Less → (z ≡ Less → ordering_index x ≤ ordering_index y) → ordering_index (ordering_then o x) ≤ ordering_index (ordering_then p y)
step_rises a b s Less p q x y z l m n e f = omega arith
step_rises a b s Equal Less Less x y z l m n e f = absurd (omega (arith, l, m, n))
step_rises a b s Equal Less Equal x y z l m n e f = absurd (omega (arith, l, m, n))
step_rises a b s Equal Less Greater x y z l m n e f = absurd (cc)
step_rises a b s Equal Equal Less x y z l m n e f = absurd (omega (arith, l, m, n))
step_rises a b s Equal Equal Equal x y z l m n e f = f e
step_rises a b s Equal Equal Greater x y z l m n e f = absurd (cc)
step_rises a b s Equal Greater q x y z l m n e f = low_index x
step_rises a b s Greater Less Less x y z l m n e f = absurd (omega (arith, l, m, n))
step_rises a b s Greater Less Equal x y z l m n e f = absurd (omega (arith, l, m, n))
step_rises a b s Greater Less Greater x y z l m n e f = absurd (cc)
step_rises a b s Greater Equal Less x y z l m n e f = absurd (omega (arith, l, m, n))
step_rises a b s Greater Equal Equal x y z l m n e f = absurd (omega (arith, l, m, n))
step_rises a b s Greater Equal Greater x y z l m n e f = absurd (cc)
step_rises a b s Greater Greater q x y z l m n e f = omega arith

-- a later text has no earlier place
place_rises : (x y start : List ℕ) → slice_cmp nat_cmp x y ≡ Less → ordering_index (place_of x start) ≤ ordering_index (place_of y start)
place_rises x y [] e = omega arith
place_rises [] y (s ∷ start) e = omega arith
place_rises (a ∷ x) [] (s ∷ start) e = absurd (cc)
place_rises (a ∷ x) (b ∷ y) (s ∷ start) e =
    step_rises a b s (nat_cmp a s) (nat_cmp b s) (nat_cmp a b) (place_of x start) (place_of y start) (slice_cmp nat_cmp x y)
    (ranked a s (nat_cmp a s) refl) (ranked b s (nat_cmp b s) refl) (ranked a b (nat_cmp a b) refl) e (place_rises x y start)

each_after : (x : List ℕ) (ys : List (List ℕ)) → AllByRecursion (λ y. slice_cmp nat_cmp x y ≡ Less) ys → (j : ℕ) (d : List ℕ) → j < length ys → slice_cmp nat_cmp x (get_or ys j d) ≡ Less
each_after x [] h j d lt = absurd (omega (arith, lt))
each_after x (y ∷ ys) h zero d lt = h.0
each_after x (y ∷ ys) h (suc j) d lt = each_after x ys h.1 j d (omega (arith, lt))

pub places_rise : (texts : List (List ℕ)) (start : List ℕ) → AreRising texts → (i j : ℕ) (d : List ℕ) → i ≤ j → j < length texts
    → ordering_index (place_of (get_or texts i d) start) ≤ ordering_index (place_of (get_or texts j d) start)
unfolding IsStrictlySortedBy
places_rise [] start h i j d le lt = absurd (omega (arith, lt))
places_rise (x ∷ xs) start h zero zero d le lt = omega arith
places_rise (x ∷ xs) start h zero (suc j) d le lt = place_rises x (get_or xs j d) start (each_after x xs h.0 j d (omega (arith, lt)))
places_rise (x ∷ xs) start h (suc i) zero d le lt = absurd (omega (arith, le))
places_rise (x ∷ xs) start h (suc i) (suc j) d le lt = places_rise xs start h.1 i j d (omega (arith, le)) (omega (arith, lt))

-- ---- sorted starts, each once

each_shown : (x : Bor (List ℕ)) (ys : List (Bor (List ℕ))) → AllByRecursion (λ y. on (λ b. b.now) (slice_cmp nat_cmp) x y ≡ Less) ys → AllByRecursion (λ y. slice_cmp nat_cmp x.now y ≡ Less) (shown_of ys)
each_shown x [] h = tt
each_shown x (y ∷ ys) h = (h.0, each_shown x ys h.1)

shown_rising : (xs : List (Bor (List ℕ))) → IsStrictlySortedBy (on (λ (b : Bor (List ℕ)). b.now) (slice_cmp nat_cmp)) xs → AreRising (shown_of xs)
unfolding IsStrictlySortedBy
shown_rising [] h = tt
shown_rising (x ∷ xs) h = (each_shown x xs h.0, shown_rising xs h.1)

abbrev pub same_shown : Bor (List ℕ) → Bor (List ℕ) → Bool
same_shown x y = bytes_eq x.now y.now

shown_cond : (b : Bool) (xs ys : List (Bor (List ℕ))) → shown_of (cond b xs ys) ≡ cond b (shown_of xs) (shown_of ys)
shown_cond true xs ys = refl
shown_cond false xs ys = refl

shown_dedup_from : (k : Bor (List ℕ)) (xs : List (Bor (List ℕ))) → shown_of (dedup_from same_shown k xs) ≡ dedup_from bytes_eq k.now (shown_of xs)
shown_dedup_from k [] = refl
shown_dedup_from k (x ∷ xs) =
    shown_cond (same_shown x k) (dedup_from same_shown k xs) (k ∷ dedup_from same_shown x xs)
    ∙ (λ i. cond (same_shown x k) (shown_dedup_from k xs i) (k.now ∷ shown_dedup_from x xs i))

shown_dedup : (xs : List (Bor (List ℕ))) → shown_of (dedup same_shown xs) ≡ dedup bytes_eq (shown_of xs)
shown_dedup [] = refl
shown_dedup (x ∷ xs) = shown_dedup_from x xs

pub kept_rising : (sorted kept : List (Bor (List ℕ))) → IsSorted (on (λ (b : Bor (List ℕ)). b.now) (slice_cmp nat_cmp)) sorted → kept ≡ dedup same_shown sorted → AreRising (shown_of kept)
kept_rising sorted kept h is =
    shown_rising kept (subst (IsStrictlySortedBy (on (λ (b : Bor (List ℕ)). b.now) (slice_cmp nat_cmp))) (sym is)
    (IsStrictlySortedBy-dedup (on_texts (λ (b : Bor (List ℕ)). b.now)) (λ x y. texts_ties x.now y.now) sorted h))

kept_same : (starts sorted kept : List (Bor (List ℕ))) → IsPermutation starts sorted → kept ≡ dedup same_shown sorted → (t : List ℕ) → Contains (shown_of kept) t ↔ Contains (shown_of starts) t
kept_same starts sorted kept moved is t = (
  λ h. Contains-permutation (shown_of sorted) (shown_of starts) t (IsPermutation-sym (shown_of starts) (shown_of sorted) shown_moved) (Contains-from_dedup bytes_eq (shown_of sorted) t (subst (λ l. Contains l t) once h)),
  λ h. subst (λ l. Contains l t) (sym once) (Contains-dedup nat_list_eq_equiv (λ x y e. (bytes_decides x y).0 e) (shown_of sorted) t (Contains-permutation (shown_of starts) (shown_of sorted) t shown_moved h)),
)
  where
    once : shown_of kept ≡ dedup bytes_eq (shown_of sorted)
    once = ap shown_of is ∙ shown_dedup sorted

    shown_moved : IsPermutation (shown_of starts) (shown_of sorted)
    shown_moved = IsPermutation-map (λ (b : Bor (List ℕ)). b.now) starts sorted moved

-- ---- texts below a folder

key_append : (P : List ℕ → Type 0) (xs ys : List Entry) → HasKey P (xs ++ ys) ↔ (HasKey P xs ⊎ HasKey P ys)
key_append P xs ys = (
  λ h. ⊎_elim {C = HasKey P xs ⊎ HasKey P ys} (λ front. inl (h.0, h.1, front, h.3)) (λ back. inr (h.0, h.1, back, h.3)) (Contains-append_cases xs ys (entry h.0 h.1) h.2),
  λ h. ⊎_elim {C = HasKey P (xs ++ ys)} (λ front. (front.0, front.1, Contains-append_left xs ys (entry front.0 front.1) front.2, front.3))
      (λ back. (back.0, back.1, Contains-append_right xs ys (entry back.0 back.1) back.2, back.3)) h,
)

one_key : (P : List ℕ → Type 0) (e : Entry) → HasKey P (e ∷ []) ↔ P e.key
one_key P e = (to, λ p. (e.key, e.index, (0, omega arith, refl), p))
  where
    to : HasKey P (e ∷ []) → P e.key
    to (key, i, (zero, lt, is), p) = subst P (sym (ap (λ (e : Entry). e.key) is)) p
    to (key, i, (suc k, lt, is), p) = absurd (omega (arith, lt))

some_append : (xs ys : List (List ℕ)) (f : List ℕ) → SomeBelow (xs ++ ys) f ↔ (SomeBelow xs f ⊎ SomeBelow ys f)
some_append xs ys f = (
  λ h. ⊎_elim {C = SomeBelow xs f ⊎ SomeBelow ys f} (λ front. inl (h.0, front, h.2)) (λ back. inr (h.0, back, h.2)) (Contains-append_cases xs ys h.0 h.1),
  λ h. ⊎_elim {C = SomeBelow (xs ++ ys) f} (λ front. (front.0, Contains-append_left xs ys front.0 front.1, front.2)) (λ back. (back.0, Contains-append_right xs ys back.0 back.1, back.2)) h,
)

-- ---- a folder that is added

shown_push : (starts : List (Bor (List ℕ))) (b : Bor (List ℕ)) → shown_of (starts ++ b ∷ []) ≡ shown_of starts ++ b.now ∷ []
shown_push [] b = refl
shown_push (x ∷ xs) b = ap (λ l. x.now ∷ l) (shown_push xs b)

-- the start of a key is added
pub adds_start : (starts new : List (Bor (List ℕ))) (start : Bor (List ℕ)) (key : List ℕ) → start.now ≡ start_of key → new ≡ starts ++ start ∷ [] → AddsFolder (shown_of starts) (shown_of new) key
adds_start starts new start key of_key grown f = (
  λ h. ⊎_elim {C = SomeBelow (shown_of starts) f ⊎ IsBelow f key} (λ front. inl front) (λ back. inr ((start_tells f key).0 (subst (IsBelow f) of_key (one back))))
      ((some_append (shown_of starts) (start.now ∷ []) f).0 (subst (λ l. SomeBelow l f) is h)),
  λ h. subst (λ l. SomeBelow l f) (sym is) ((some_append (shown_of starts) (start.now ∷ []) f).1
      (⊎_elim {C = SomeBelow (shown_of starts) f ⊎ SomeBelow (start.now ∷ []) f} (λ front. inl front)
      (λ below. inr (start.now, (0, omega arith, refl), subst (IsBelow f) (sym of_key) ((start_tells f key).1 below))) h)),
)
  where
    is : shown_of new ≡ shown_of starts ++ start.now ∷ []
    is = ap shown_of grown ∙ shown_push starts start

    one : SomeBelow (start.now ∷ []) f → IsBelow f start.now
    one (t, (zero, lt, same), below) = subst (IsBelow f) (sym same) below
    one (t, (suc k, lt, same), below) = absurd (omega (arith, lt))

-- the start of a key is empty, or is one of the texts
pub adds_known : (texts : List (List ℕ)) (start key : List ℕ) → start ≡ start_of key → (start ≡ []) ⊎ Contains texts start → AddsFolder texts texts key
adds_known texts start key of_key known f = (
  λ h. inl h,
  λ h. ⊎_elim {C = SomeBelow texts f} (λ some. some) (λ below. here (subst (IsBelow f) (sym of_key) ((start_tells f key).1 below))) h,
)
  where
    -- no folder is above the empty text
    here : IsBelow f start → SomeBelow texts f
    here below = ⊎_elim {C = SomeBelow texts f} (λ empty. absurd (omega (arith, shorter f [] (subst (IsBelow f) empty below)))) (λ has. (start, has, below)) known

-- ---- the folders of keys that were read

one_more : (texts new : List (List ℕ)) (keys : List Entry) (e : Entry) → AddsFolder texts new e.key → HaveFolders texts keys → HaveFolders new (keys ++ e ∷ [])
one_more texts new keys e adds have f = (
  λ h. (key_append (IsBelow f) keys (e ∷ [])).1 (⊎_elim {C = HasKey (IsBelow f) keys ⊎ HasKey (IsBelow f) (e ∷ [])} (λ some. inl ((have f).0 some)) (λ below. inr ((one_key (IsBelow f) e).1 below)) ((adds f).0 h)),
  λ h. (adds f).1 (⊎_elim {C = SomeBelow texts f ⊎ IsBelow f e.key} (λ more. inl ((have f).1 more)) (λ one. inr ((one_key (IsBelow f) e).0 one)) ((key_append (IsBelow f) keys (e ∷ [])).0 h)),
)

pub next_path : (texts new : List (List ℕ)) (keys : List Entry) (k : ℕ) → k < length keys → AddsFolder texts new (key_at keys k) → HaveFolders texts (take k keys) → HaveFolders new (take (k + 1) keys)
next_path texts new keys k lt adds have =
    let next : k + 1 ≡ suc k = omega arith in
    subst (λ l. HaveFolders new l) (sym (ap (λ n. take n keys) next ∙ take-suc keys k (entry [] 0) lt)) (one_more texts new (take k keys) (get_or keys k (entry [] 0)) adds have)

map_next : (keys : List Text) (k : ℕ) (t : Text) → k < length keys → get_or keys k t ≡ t → map entry_of (take (k + 1) keys) ≡ map entry_of (take k keys) ++ entry_of t ∷ []
map_next keys k t lt is =
    let next : k + 1 ≡ suc k = omega arith in
    ap (λ n. map entry_of (take n keys)) next ∙ ap (map entry_of) (take-suc keys k t lt ∙ ap (λ x. take k keys ++ x ∷ []) is) ∙ map-append entry_of (take k keys) (t ∷ [])

pub next_text : (texts new : List (List ℕ)) (paths : List Entry) (keys : List Text) (k : ℕ) (t : Text) → k < length keys → get_or keys k t ≡ t → AddsFolder texts new t.bytes.items
    → HaveFolders texts (paths ++ map entry_of (take k keys)) → HaveFolders new (paths ++ map entry_of (take (k + 1) keys))
next_text texts new paths keys k t lt is adds have =
    subst (λ l. HaveFolders new l) (append_assoc paths (map entry_of (take k keys)) (entry_of t ∷ []) ∙ ap (λ l. paths ++ l) (sym (map_next keys k t lt is)))
    (one_more texts new (paths ++ map entry_of (take k keys)) (entry_of t) adds have)

-- the last item of a list is one of those that it shows
pub shows_last : (starts : List (Bor (List ℕ))) (last : Bor (List ℕ)) → slice_get starts (length starts - 1) ≡ Some last → Contains (shown_of starts) last.now
shows_last starts last is =
    let within = slice_get_within starts (length starts - 1) last is in (
      length starts - 1,
      omega (arith, within, length-map starts (λ (b : Bor (List ℕ)). b.now)),
      get_or-map (λ (b : Bor (List ℕ)). b.now) starts (length starts - 1) last last.now within ∙ ap (λ (b : Bor (List ℕ)). b.now) (get_or_from_slice_get starts (length starts - 1) last last is),
    )

-- the texts that are kept of the folders of paths and beginnings
pub folders_tell : (paths prefixes : List Entry) (starts sorted kept : List (Bor (List ℕ))) (texts : List (List ℕ)) → HaveFolders (shown_of starts) (paths ++ prefixes)
    → IsPermutation starts sorted → kept ≡ dedup same_shown sorted → texts ≡ shown_of kept → AreFolders texts paths prefixes
folders_tell paths prefixes starts sorted kept texts have moved once is = record {
  tells = λ f. (
    λ h. (key_append (IsBelow f) paths prefixes).0 ((have f).0 (h.0, (kept_same starts sorted kept moved once h.0).0 (subst (λ l. Contains l h.0) is h.1), h.2)),
    λ h. let some = (have f).1 ((key_append (IsBelow f) paths prefixes).1 h) in
        (some.0, subst (λ l. Contains l some.0) (sym is) ((kept_same starts sorted kept moved once some.0).1 some.1), some.2),
  );
}

-- ---- the search

some_of : {X : Type 0} (texts : List (Vec ℕ X)) (i : ℕ) → i < length texts → Vec ℕ X
some_of [] i lt = absurd (omega (arith, lt))
some_of (t ∷ ts) i lt = t

-- a binary search by the place finds a text just if there is one
pub search_tells : {X : Type 0} (texts : List (Vec ℕ X)) (f : List ℕ) (r : Result ℕ ℕ) → AreRising (bytes_of texts) → IsSearchInRange r (length texts)
    → IsBinarySearchResult (λ t. place_of t.items (folder_start f)) texts r → IsTrue (is_ok r) ↔ SomeBelow (bytes_of texts) f
search_tells {X} texts f (Ok i) rising within found = (
  λ yes.
      let d = some_of texts i within in
      let text = get_or texts i d in (
        text.items,
        (i, omega (arith, within, length-map texts (λ (t : Vec ℕ X). t.items)), get_or-map (λ (t : Vec ℕ X). t.items) texts i d text.items within),
        (place_tells text.items (folder_start f)).0 (found d),
      ),
  λ h. refl,
)
search_tells {X} texts f (Err i) rising within found = (λ yes. absurd (cc), λ h. absurd (none h))
  where
    at : (k : ℕ) (d : Vec ℕ X) (e : List ℕ) → k < length texts → get_or (bytes_of texts) k e ≡ (get_or texts k d).items
    at k d e lt = get_or-map (λ (t : Vec ℕ X). t.items) texts k d e lt

    rises : IsNonDecreasingBy (λ (t : Vec ℕ X). ordering_index (place_of t.items (folder_start f))) texts
    rises a b d le lt =
        subst (λ x. ordering_index (place_of x (folder_start f)) ≤ ordering_index (place_of (get_or texts b d).items (folder_start f))) (at a d d.items (omega (arith, le, lt)))
        (subst (λ y. ordering_index (place_of (get_or (bytes_of texts) a d.items) (folder_start f)) ≤ ordering_index (place_of y (folder_start f))) (at b d d.items lt)
        (places_rise (bytes_of texts) (folder_start f) rising a b d.items le (omega (arith, lt, length-map texts (λ (t : Vec ℕ X). t.items)))))

    other : (k : ℕ) (d : Vec ℕ X) → k < length texts → (k < i) ⊎ (i ≤ k) → place_of (get_or texts k d).items (folder_start f) ≡ Equal → ⊥
    other k d lt (inl low) e = let less = (found rises).0 k d (omega arith) low in absurd (cc)
    other k d lt (inr high) e = let greater = (found rises).1 k d high lt in absurd (cc)

    none : SomeBelow (bytes_of texts) f → ⊥
    none (t, (k, lt, is), below) =
        let inside : k < length texts = omega (arith, lt, length-map texts (λ (t : Vec ℕ X). t.items)) in
        let d = some_of texts k inside in
        let same : (get_or texts k d).items ≡ t = sym (at k d t inside) ∙ is in
        other k d inside (cases_lt k i) (subst (λ x. place_of x (folder_start f) ≡ Equal) (sym same) ((place_tells t (folder_start f)).1 below))
