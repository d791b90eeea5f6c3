-- Rows that are equal have the same place and the same states.
use Rattle.std.proofs.Common.{◌≡◌, ℕ, zero, suc, arith, subst, Bool, true, false, true≢false, List, [], ◌∷◌, ◌++◌, refl, ap, sym, ◌∙◌}
use Rattle.std.specs.Prelude.{nat_eq, not, Some, slice_get, if◌then◌else◌}
use Rattle.std.specs.List.{list_any, AllByRecursion, IsDistinct}
use Rattle.std.specs.Str.{bytes_eq}
use Rattle.indexmap.specs.IndexSet.{insert_key}
use Rattle.std.proofs.lemmas.Bool.{eq-eqb, eqb-true}
use Rattle.byte_nfa.proofs.lemmas.Pass.{and_both, and_first, and_second}
use Rattle.glob_relations.specs.declared.domain.PathPlace.{PathPlace}
use Rattle.glob_relations.specs.declared.domain.PathPlace.TheVariants.{Anywhere, Start, Dot, TwoDots, Inside}
use Rattle.glob_relations.specs.declared.rows.SearchRow.{SearchRow}
use Rattle.glob_relations.specs.inner.Rows.{AreDifferent}
use Rattle.glob_relations.specs.contracts.domain.PathPlacePartialEq.TheImpl as places
use Rattle.glob_relations.specs.contracts.rows.SearchRowPartialEq.TheImpl as rows

same_numbers : (xs ys : List ℕ) → bytes_eq xs ys ≡ true → xs ≡ ys
same_numbers [] [] h = refl
same_numbers [] (y ∷ ys) h = absurd (true≢false (sym h))
same_numbers (x ∷ xs) [] h = absurd (true≢false (sym h))
same_numbers (x ∷ xs) (y ∷ ys) h =
    let first : x ≡ y = eqb-true x y (and_first (nat_eq x y) (bytes_eq xs ys) h) in
    let rest : xs ≡ ys = same_numbers xs ys (and_second (nat_eq x y) (bytes_eq xs ys) h) in
    cc

same_place : (p q : PathPlace) → places.ghosts.eq p q ≡ true → p ≡ q
same_place Anywhere Anywhere h = refl
same_place Anywhere Start h = absurd (true≢false (sym h))
same_place Anywhere Dot h = absurd (true≢false (sym h))
same_place Anywhere TwoDots h = absurd (true≢false (sym h))
same_place Anywhere Inside h = absurd (true≢false (sym h))
same_place Start Anywhere h = absurd (true≢false (sym h))
same_place Start Start h = refl
same_place Start Dot h = absurd (true≢false (sym h))
same_place Start TwoDots h = absurd (true≢false (sym h))
same_place Start Inside h = absurd (true≢false (sym h))
same_place Dot Anywhere h = absurd (true≢false (sym h))
same_place Dot Start h = absurd (true≢false (sym h))
same_place Dot Dot h = refl
same_place Dot TwoDots h = absurd (true≢false (sym h))
same_place Dot Inside h = absurd (true≢false (sym h))
same_place TwoDots Anywhere h = absurd (true≢false (sym h))
same_place TwoDots Start h = absurd (true≢false (sym h))
same_place TwoDots Dot h = absurd (true≢false (sym h))
same_place TwoDots TwoDots h = refl
same_place TwoDots Inside h = absurd (true≢false (sym h))
same_place Inside Anywhere h = absurd (true≢false (sym h))
same_place Inside Start h = absurd (true≢false (sym h))
same_place Inside Dot h = absurd (true≢false (sym h))
same_place Inside TwoDots h = absurd (true≢false (sym h))
same_place Inside Inside h = refl

pub same_row : (a b : SearchRow) → rows.ghosts.eq a b ≡ true → (a.place ≡ b.place) × (a.states.items ≡ b.states.items)
same_row a b h = (
  same_place a.place b.place (and_first (places.ghosts.eq a.place b.place) (bytes_eq a.states.items b.states.items) h),
  same_numbers a.states.items b.states.items (and_second (places.ghosts.eq a.place b.place) (bytes_eq a.states.items b.states.items) h),
)

-- a row that was not new left the rows as they were
pub kept_keys : (ks new : List SearchRow) (row : SearchRow) (is_new : Bool) → is_new ≡ false → is_new ≡ not (list_any (rows.ghosts.eq row) ks) → new ≡ insert_key rows.ghosts.eq ks row → new ≡ ks
kept_keys ks new row is_new old added keys = keys ∙ ap (λ z. if z then ks else ks ++ row ∷ []) (there (list_any (rows.ghosts.eq row) ks) (sym added ∙ old))
  where
    there : (b : Bool) → not b ≡ false → b ≡ true
    there true h = refl
    there false h = absurd (true≢false h)

own_place : (p : PathPlace) → places.ghosts.eq p p ≡ true
own_place Anywhere = refl
own_place Start = refl
own_place Dot = refl
own_place TwoDots = refl
own_place Inside = refl

own_numbers : (xs : List ℕ) → bytes_eq xs xs ≡ true
own_numbers [] = refl
own_numbers (x ∷ xs) = and_both (nat_eq x x) (bytes_eq xs xs) (eq-eqb x x refl) (own_numbers xs)

equal_row : (a b : SearchRow) → a.place ≡ b.place → a.states.items ≡ b.states.items → rows.ghosts.eq a b ≡ true
equal_row a b place states = and_both (places.ghosts.eq a.place b.place) (bytes_eq a.states.items b.states.items)
    (subst (λ (p : PathPlace). places.ghosts.eq a.place p ≡ true) place (own_place a.place))
    (subst (λ (l : List ℕ). bytes_eq a.states.items l ≡ true) states (own_numbers a.states.items))

all_at : {X : Type 0} (P : X → Type 0) (xs : List X) (j : ℕ) (x : X) → AllByRecursion P xs → slice_get xs j ≡ Some x → P x
all_at P [] j x all at = absurd cc
all_at P (y ∷ ys) zero x all at = let same : y ≡ x = cc in subst P same all.0
all_at P (y ∷ ys) (suc j) x all at = all_at P ys j x all.1 at

pub rows_differ : (ks : List SearchRow) → IsDistinct rows.ghosts.eq ks → AreDifferent ks
unfolding IsDistinct
rows_differ [] h i j r s lt at at' place states = absurd cc
rows_differ (x ∷ xs) h i zero r s lt at at' place states = absurd (omega arith)
rows_differ (x ∷ xs) h zero (suc j) r s lt at at' place states =
    let same : x ≡ r = cc in
    true≢false (sym (equal_row x s (ap (λ (q : SearchRow). q.place) same ∙ place) (ap (λ (q : SearchRow). q.states.items) same ∙ states)) ∙ all_at (λ (q : SearchRow). rows.ghosts.eq x q ≡ false) xs j s h.0 at')
rows_differ (x ∷ xs) h (suc i) (suc j) r s lt at at' place states = rows_differ xs h.1 i j r s (omega arith) at at' place states
