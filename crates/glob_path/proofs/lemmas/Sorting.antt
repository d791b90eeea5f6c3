-- Texts in order.
use Rattle.std.proofs.Common.{◌≡◌, ℕ, ◌+◌, ◌<◌, Bool, true, false, not, ◌&&◌, cond, List, [], ◌∷◌, ◌++◌, length, map, take, drop, get_or, set, reverse, refl, sym, ap, subst, ◌∙◌, arith, ◌⊎◌, ⊎_elim, inl, inr}
use Rattle.std.specs.Str.{bytes_eq}
use Rattle.std.specs.List.{filter}
use Rattle.std.specs.List.Sorted.{IsSortedBy, IsStableBy, ties}
use Rattle.std.specs.Cmp.{IsStrictWeakOrder}
use Rattle.std.specs.Cmp.Lexicographic.{slice_cmp, bytes_decides, nat_list_eq_equiv, nat_list_cmp_total}
use Rattle.std.specs.Ordering.{nat_cmp, is_lt, is_eq, ordering_then, ordering_reverse, MatchOrdering}
use Rattle.std.specs.declared.cmp.Ordering.{Ordering}
use Rattle.std.specs.declared.cmp.Ordering.TheVariants.{Less, Equal, Greater}
use Rattle.std.proofs.lemmas.Bool.{true≢false, cases_Bool}
use Rattle.std.proofs.lemmas.Cmp.{ranked}
use Rattle.std.proofs.lemmas.Map.Text.{is_eq-slice_cmp}
use Rattle.std.proofs.lemmas.List.{get_or-map, map-set, get_or_default, length-map}
use Rattle.std.proofs.lemmas.List.Edits.{map_over_more}
use Rattle.std.proofs.lemmas.List.Sorted.{ranks_by, sorted_far}
use Rattle.glob_path.specs.Entries.{entry, indexes_under}
use Rattle.glob_path.specs.declared.trie.Anchor.TheVariants.{End}
use Rattle.glob_path.specs.declared.trie.Text.{Text}
use Rattle.glob_path.specs.Texts.{entry_of}
use Rattle.glob_path.specs.inner.Anchors.{entry_from_anchor}
use Rattle.glob_path.specs.inner.Building.{IsUpTo, IsOrdered}

-- the order of texts by their bytes
abbrev pub is_before : Text → Text → Bool
is_before t u = is_lt (slice_cmp nat_cmp t.bytes.items u.bytes.items)

pub before_ranks : IsStrictWeakOrder is_before
before_ranks = ranks_by nat_list_cmp_total (λ t. t.bytes.items)

limit_step : (x y : ℕ) (xs ys : List ℕ) (o p : Ordering) → MatchOrdering o (y < x) (y ≡ x) (x < y) → is_lt (ordering_then o p) ≡ false → (is_lt p ≡ false → IsUpTo xs ys) →
    IsUpTo (x ∷ xs) (y ∷ ys)
limit_step x y xs ys Less p m e f = absurd (true≢false e)
limit_step x y xs ys Equal p m e f = inr (sym m, f e)
limit_step x y xs ys Greater p m e f = inl m

limit_from : (xs ys : List ℕ) → is_lt (slice_cmp nat_cmp ys xs) ≡ false → IsUpTo xs ys
limit_from [] ys e = tt
limit_from (x ∷ xs) [] e = absurd (true≢false e)
limit_from (x ∷ xs) (y ∷ ys) e = limit_step x y xs ys (nat_cmp y x) (slice_cmp nat_cmp ys xs) (ranked y x (nat_cmp y x) refl) e (limit_from xs ys)

pub ordered_from : (ts : List Text) → IsSortedBy is_before ts → IsOrdered ts 0 0 (length ts)
ordered_from ts h i j d e a b c =
    subst (λ t. IsUpTo (get_or ts i d).bytes.items t.bytes.items) (get_or_default ts j d e c)
    (limit_from (get_or ts i d).bytes.items (get_or ts j d).bytes.items (sorted_far is_before before_ranks ts h i j d b c))

tied : (o p : Ordering) → p ≡ ordering_reverse o → (not (is_lt o) && not (is_lt p)) ≡ is_eq o
tied Less p e = refl
tied Equal p e = ap (λ q. not (is_lt q)) e
tied Greater p e = ap (λ q. not (is_lt q)) e

ties_same : (x t : Text) (w : List ℕ) → x.bytes.items ≡ w → ties is_before x t ≡ bytes_eq t.bytes.items w
ties_same x t w e =
    tied (slice_cmp nat_cmp x.bytes.items t.bytes.items) (slice_cmp nat_cmp t.bytes.items x.bytes.items) (nat_list_cmp_total.antisymm t.bytes.items x.bytes.items)
    ∙ is_eq-slice_cmp x.bytes.items t.bytes.items
    ∙ nat_list_eq_equiv.symm x.bytes.items t.bytes.items
    ∙ ap (bytes_eq t.bytes.items) e

kept_step : (p b : Bool) (t : Text) (us : List ℕ) (ls : List Text) → p ≡ b → us ≡ map (λ t. t.index) ls → cond b (t.index ∷ us) us ≡ map (λ t. t.index) (cond p (t ∷ ls) ls)
kept_step true true t us ls e h = ap (λ l. t.index ∷ l) h
kept_step true false t us ls e h = absurd (true≢false e)
kept_step false true t us ls e h = absurd (true≢false (sym e))
kept_step false false t us ls e h = h

under_ties : (x : Text) (w : List ℕ) → x.bytes.items ≡ w → (ts : List Text) → indexes_under (map entry_of ts) w ≡ map (λ t. t.index) (filter (ties is_before x) ts)
under_ties x w e [] = refl
under_ties x w e (t ∷ ts) =
    kept_step (ties is_before x t) (bytes_eq t.bytes.items w) t (indexes_under (map entry_of ts) w) (filter (ties is_before x) ts) (ties_same x t w e) (under_ties x w e ts)

absent_step : (b : Bool) (i : ℕ) (us : List ℕ) → b ≡ false → cond b (i ∷ us) us ≡ us
absent_step true i us e = absurd (true≢false e)
absent_step false i us e = refl

some_or_none : (ts : List Text) (w : List ℕ) → ((x : Text) × (x.bytes.items ≡ w)) ⊎ (indexes_under (map entry_of ts) w ≡ [])
some_or_none [] w = inr refl
some_or_none (t ∷ ts) w =
    ⊎_elim (λ y. inl (t, (bytes_decides t.bytes.items w).0 y))
    (λ n. ⊎_elim (λ s. inl s) (λ e. inr (absent_step (bytes_eq t.bytes.items w) t.index (indexes_under (map entry_of ts) w) n ∙ e)) (some_or_none ts w))
    (cases_Bool (bytes_eq t.bytes.items w))

-- a stable sort keeps what is under each text
pub under_stable : (xs ys : List Text) → IsStableBy is_before xs ys → (w : List ℕ) → indexes_under (map entry_of ys) w ≡ indexes_under (map entry_of xs) w
under_stable xs ys h w =
    ⊎_elim (λ s. by_text s.0 s.1)
    (λ a. ⊎_elim (λ s. by_text s.0 s.1) (λ b. a ∙ sym b) (some_or_none xs w))
    (some_or_none ys w)
  where
    by_text : (x : Text) → x.bytes.items ≡ w → indexes_under (map entry_of ys) w ≡ indexes_under (map entry_of xs) w
    by_text x e = under_ties x w e ys ∙ ap (map (λ t. t.index)) (h x) ∙ sym (under_ties x w e xs)

-- one more text is reversed
pub turn_more : (ts ys : List Text) (i : ℕ) (item new : Text) → i < length ts →
    map entry_of ys ≡ map (entry_from_anchor End) (take i (map entry_of ts)) ++ drop i (map entry_of ts) → length ys ≡ length ts → item ≡ get_or ys i item →
    new.bytes.items ≡ reverse item.bytes.items → new.index ≡ item.index →
    map entry_of (set ys i new) ≡ map (entry_from_anchor End) (take (i + 1) (map entry_of ts)) ++ drop (i + 1) (map entry_of ts)
turn_more ts ys i item new l h n e r x =
    map-set entry_of ys i new
    ∙ ap (set (map entry_of ys) i) ((λ k. entry (r k) (x k)))
    ∙ map_over_more (entry_from_anchor End) (map entry_of ts) (map entry_of ys) i (entry_of item) (omega (arith, length-map ts entry_of)) h
    (ap entry_of e ∙ sym (get_or-map entry_of ys i item (entry_of item) (omega arith)))
