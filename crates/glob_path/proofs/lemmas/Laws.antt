-- Which indexes are found.
use Rattle.std.proofs.Common.{◌≡◌, ℕ, zero, suc, arith, Bool, true, false, cond, List, [], ◌∷◌, ◌++◌, map, refl, sym, ap, subst, ◌∙◌, ◌⊎◌, ⊎_elim, inl, inr}
use Rattle.std.specs.Str.{bytes_eq}
use Rattle.std.specs.List.{flat_map, Contains}
use Rattle.std.specs.Cmp.Lexicographic.{bytes_decides}
use Rattle.std.proofs.lemmas.Bool.{true≢false}
use Rattle.glob_path.specs.Entries.{Entry, entry, indexes_under}
use Rattle.glob_path.specs.declared.trie.Anchor.{Anchor}
use Rattle.glob_path.specs.declared.trie.Anchor.TheVariants.{Start, End}
use Rattle.glob_path.specs.Texts.{prefixes, suffixes, parts, found}
use Rattle.glob_path.specs.Laws.{IsAt, FindsExactly}

-- ---- elements of lists, by recursion

abbrev IsIn : {X : Type 0} → X → List X → Type 0
IsIn x [] = ⊥
IsIn x (y ∷ ys) = (x ≡ y) ⊎ IsIn x ys

contained : {X : Type 0} (x : X) (xs : List X) → IsIn x xs → Contains xs x
contained x [] h = absurd h
contained x (y ∷ ys) (inl e) = (0, omega arith, sym e)
contained x (y ∷ ys) (inr h) = let c = contained x ys h in (suc c.0, omega (arith, c.1), c.2)

in_list : {X : Type 0} (x : X) (xs : List X) → Contains xs x → IsIn x xs
in_list x [] (k, lt, e) = absurd (omega (arith, lt))
in_list x (y ∷ ys) (zero, lt, e) = inl (sym e)
in_list x (y ∷ ys) (suc k, lt, e) = inr (in_list x ys (k, omega (arith, lt), e))

-- some entry has the text and the index
abbrev HasEntry : List Entry → List ℕ → ℕ → Type 0
HasEntry [] text i = ⊥
HasEntry (e ∷ es) text i = ((e.key ≡ text) × (i ≡ e.index)) ⊎ HasEntry es text i

entry_in : (es : List Entry) (text : List ℕ) (i : ℕ) → HasEntry es text i → IsIn (entry text i) es
entry_in [] text i h = absurd h
entry_in (e ∷ es) text i (inl h) = inl (ap (λ k. entry k i) (sym h.0) ∙ ap (entry e.key) h.1)
entry_in (e ∷ es) text i (inr h) = inr (entry_in es text i h)

has_entry : (es : List Entry) (text : List ℕ) (i : ℕ) → IsIn (entry text i) es → HasEntry es text i
has_entry [] text i h = absurd h
has_entry (e ∷ es) text i (inl h) = inl (sym (ap (λ (x : Entry). x.key) h), ap (λ (x : Entry). x.index) h)
has_entry (e ∷ es) text i (inr h) = inr (has_entry es text i h)

-- ---- what is found under the parts of a path

-- the text is one of the list
IsPart : List ℕ → List (List ℕ) → Type 0
IsPart x [] = ⊥
IsPart x (y ∷ ys) = (x ≡ y) ⊎ IsPart x ys

in_left : (i : ℕ) (xs ys : List ℕ) → IsIn i xs → IsIn i (xs ++ ys)
in_left i [] ys h = absurd h
in_left i (x ∷ xs) ys (inl e) = inl e
in_left i (x ∷ xs) ys (inr h) = inr (in_left i xs ys h)

in_right : (i : ℕ) (xs ys : List ℕ) → IsIn i ys → IsIn i (xs ++ ys)
in_right i [] ys h = h
in_right i (x ∷ xs) ys h = inr (in_right i xs ys h)

in_either : (i : ℕ) (xs ys : List ℕ) → IsIn i (xs ++ ys) → IsIn i xs ⊎ IsIn i ys
in_either i [] ys h = inr h
in_either i (x ∷ xs) ys (inl e) = inl (inl e)
in_either i (x ∷ xs) ys (inr h) = ⊎_elim (λ a. inl (inr a)) (λ b. inr b) (in_either i xs ys h)

entry_from : (b : Bool) (e : Entry) (es : List Entry) (text : List ℕ) (i : ℕ) (us : List ℕ) → (b ≡ true → e.key ≡ text) → (IsIn i us → HasEntry es text i) →
    IsIn i (cond b (e.index ∷ us) us) → HasEntry (e ∷ es) text i
entry_from true e es text i us f g (inl h) = inl (f refl, h)
entry_from true e es text i us f g (inr h) = inr (g h)
entry_from false e es text i us f g h = inr (g h)

pub under_has : (es : List Entry) (text : List ℕ) (i : ℕ) → IsIn i (indexes_under es text) → HasEntry es text i
under_has [] text i h = absurd h
under_has (e ∷ es) text i h =
    entry_from (bytes_eq e.key text) e es text i (indexes_under es text) (bytes_decides e.key text).0 (under_has es text i) h

in_more : (b : Bool) (i x : ℕ) (us : List ℕ) → IsIn i us → IsIn i (cond b (x ∷ us) us)
in_more true i x us h = inr h
in_more false i x us h = h

in_first : (b : Bool) (i x : ℕ) (us : List ℕ) → b ≡ true → i ≡ x → IsIn i (cond b (x ∷ us) us)
in_first true i x us e h = inl h
in_first false i x us e h = absurd (true≢false (sym e))

pub has_under : (es : List Entry) (text : List ℕ) (i : ℕ) → HasEntry es text i → IsIn i (indexes_under es text)
has_under [] text i h = absurd h
has_under (e ∷ es) text i (inl h) = in_first (bytes_eq e.key text) i e.index (indexes_under es text) ((bytes_decides e.key text).1 h.0) h.1
has_under (e ∷ es) text i (inr h) = in_more (bytes_eq e.key text) i e.index (indexes_under es text) (has_under es text i h)

from_parts : (es : List Entry) (i : ℕ) (xs : List (List ℕ)) → IsIn i (flat_map (indexes_under es) xs) → (x : List ℕ) × HasEntry es x i × IsPart x xs
unfolding IsPart
from_parts es i [] h = absurd h
from_parts es i (x ∷ xs) h =
    ⊎_elim (λ a. (x, under_has es x i a, inl refl))
    (λ b. let r = from_parts es i xs b in (r.0, r.1, inr r.2))
    (in_either i (indexes_under es x) (flat_map (indexes_under es) xs) h)

to_parts : (es : List Entry) (i : ℕ) (x : List ℕ) (xs : List (List ℕ)) → HasEntry es x i → IsPart x xs → IsIn i (flat_map (indexes_under es) xs)
unfolding IsPart
to_parts es i x [] h p = absurd p
to_parts es i x (y ∷ ys) h (inl e) =
    in_left i (indexes_under es y) (flat_map (indexes_under es) ys) (has_under es y i (subst (λ z. HasEntry es z i) e h))
to_parts es i x (y ∷ ys) h (inr p) = in_right i (indexes_under es y) (flat_map (indexes_under es) ys) (to_parts es i x ys h p)

part_map : (b : ℕ) (x : List ℕ) (xs : List (List ℕ)) → IsPart x (map (λ y. b ∷ y) xs) → (y : List ℕ) × (x ≡ b ∷ y) × IsPart y xs
unfolding IsPart
part_map b x [] h = absurd h
part_map b x (y ∷ ys) (inl e) = (y, e, inl refl)
part_map b x (y ∷ ys) (inr h) = let r = part_map b x ys h in (r.0, r.1, inr r.2)

map_part : (b : ℕ) (y : List ℕ) (xs : List (List ℕ)) → IsPart y xs → IsPart (b ∷ y) (map (λ y. b ∷ y) xs)
unfolding IsPart
map_part b y [] h = absurd h
map_part b y (z ∷ zs) (inl e) = inl (ap (λ w. b ∷ w) e)
map_part b y (z ∷ zs) (inr h) = inr (map_part b y zs h)

part_begins : (p x : List ℕ) → IsPart x (prefixes p) → (rest : List ℕ) × (x ++ rest ≡ p)
unfolding IsPart
part_begins [] x (inl e) = ([], ap (λ y. y ++ []) e)
part_begins [] x (inr h) = absurd h
part_begins (b ∷ p) x (inl e) = (b ∷ p, ap (λ y. y ++ b ∷ p) e)
part_begins (b ∷ p) x (inr h) =
    let r = part_map b x (prefixes p) h in
    let s = part_begins p r.0 r.2 in
    (s.0, ap (λ y. y ++ s.0) r.1 ∙ ap (λ y. b ∷ y) s.1)

begins_part : (x rest : List ℕ) → IsPart x (prefixes (x ++ rest))
unfolding IsPart
begins_part [] [] = inl refl
begins_part [] (b ∷ rest) = inl refl
begins_part (c ∷ x) rest = inr (map_part c x (prefixes (x ++ rest)) (begins_part x rest))

part_left : (x : List ℕ) (xs ys : List (List ℕ)) → IsPart x xs → IsPart x (xs ++ ys)
unfolding IsPart
part_left x [] ys h = absurd h
part_left x (y ∷ xs) ys (inl e) = inl e
part_left x (y ∷ xs) ys (inr h) = inr (part_left x xs ys h)

part_last : (x y : List ℕ) (xs : List (List ℕ)) → x ≡ y → IsPart x (xs ++ y ∷ [])
unfolding IsPart
part_last x y [] e = inl e
part_last x y (z ∷ zs) e = inr (part_last x y zs e)

part_either : (x y : List ℕ) (xs : List (List ℕ)) → IsPart x (xs ++ y ∷ []) → IsPart x xs ⊎ (x ≡ y)
unfolding IsPart
part_either x y [] (inl e) = inr e
part_either x y [] (inr h) = absurd h
part_either x y (z ∷ zs) (inl e) = inl (inl e)
part_either x y (z ∷ zs) (inr h) = ⊎_elim (λ a. inl (inr a)) (λ e. inr e) (part_either x y zs h)

part_ends : (p x : List ℕ) → IsPart x (suffixes p) → (front : List ℕ) × (front ++ x ≡ p)
unfolding IsPart
part_ends [] x (inl e) = ([], e)
part_ends [] x (inr h) = absurd h
part_ends (b ∷ p) x h =
    ⊎_elim (λ a. let r = part_ends p x a in (b ∷ r.0, ap (λ y. b ∷ y) r.1)) (λ e. ([], e)) (part_either x (b ∷ p) (suffixes p) h)

ends_part_whole : (x : List ℕ) → IsPart x (suffixes x)
unfolding IsPart
ends_part_whole [] = inl refl
ends_part_whole (b ∷ x) = part_last (b ∷ x) (b ∷ x) (suffixes x) refl

ends_part : (front x : List ℕ) → IsPart x (suffixes (front ++ x))
unfolding IsPart
ends_part [] x = ends_part_whole x
ends_part (c ∷ front) x = part_left x (suffixes (front ++ x)) ((c ∷ (front ++ x)) ∷ []) (ends_part front x)

at_anchor : (anchor : Anchor) (p x : List ℕ) → IsPart x (parts anchor p) → IsAt anchor p x
at_anchor Start p x h = part_begins p x h
at_anchor End p x h = part_ends p x h

anchor_at : (anchor : Anchor) (p x : List ℕ) → IsAt anchor p x → IsPart x (parts anchor p)
anchor_at Start p x h = subst (λ q. IsPart x (prefixes q)) h.1 (begins_part x h.0)
anchor_at End p x h = subst (λ q. IsPart x (suffixes q)) h.1 (ends_part h.0 x)

pub finds_exactly : FindsExactly
finds_exactly t p i = (
  λ c.
      let r = from_parts t.entries i (parts t.anchor p) (in_list i (found t p) c) in
      (r.0, contained (entry r.0 i) t.entries (entry_in t.entries r.0 i r.1), at_anchor t.anchor p r.0 r.2),
  λ r.
      let has = has_entry t.entries r.0 i (in_list (entry r.0 i) t.entries r.1) in
      contained i (found t p) (to_parts t.entries i r.0 (parts t.anchor p) has (anchor_at t.anchor p r.0 r.2)),
)
