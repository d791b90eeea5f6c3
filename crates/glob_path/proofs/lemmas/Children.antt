-- The child of a node by a byte.
use Rattle.std.proofs.Common.{◌≡◌, ℕ, zero, suc, ◌+◌, ◌<◌, ◌≤◌, ◌==◌, List, [], ◌∷◌, Some, None, Ok, Err, length, get_or, refl, sym, ap, ◌∙◌, arith, ⊎_elim}
use Rattle.std.specs.Prelude.{slice_range}
use Rattle.std.specs.Ordering.{nat_cmp}
use Rattle.std.specs.List.Sorted.{IsStrictlyIncreasing, IsBinarySearchResult}
use Rattle.std.proofs.lemmas.Bool.{cond-true, cond-false, ne_eqb, eq-eqb, cases_lt}
use Rattle.std.proofs.lemmas.List.Sorted.{searched}
use Rattle.glob_path.specs.declared.tree.Node.{Node}
use Rattle.glob_path.specs.inner.Nodes.{place_in, node_of, child_of}
use Rattle.glob_path.proofs.lemmas.Ranges.{rising_far}

place_found : (xs : List ℕ) (c b i : ℕ) → i < length xs → get_or xs i 0 ≡ b → ((k : ℕ) → k < i → get_or xs k 0 < b) → place_in xs c b ≡ Some (c + i)
place_found [] c b i l e h = absurd (omega arith)
place_found (x ∷ xs) c b zero l e h = cond-true (x == b) (Some c) (place_in xs (c + 1) b) (eq-eqb x b e) ∙ ap Some (zero_more c)
  where
    zero_more : (c : ℕ) → c ≡ c + 0
    zero_more c = omega arith
place_found (x ∷ xs) c b (suc i) l e h =
    cond-false (x == b) (Some c) (place_in xs (c + 1) b) (ne_eqb x b (λ q. absurd (omega (arith, q, h 0 (omega arith)))))
    ∙ place_found xs (c + 1) b i (omega arith) e (λ k m. h (suc k) (omega arith))
    ∙ ap Some (one_more c i)
  where
    one_more : (c i : ℕ) → c + 1 + i ≡ c + suc i
    one_more c i = omega arith

place_none : (xs : List ℕ) (c b : ℕ) → ((k : ℕ) → k < length xs → get_or xs k 0 ≡ b → ⊥) → place_in xs c b ≡ None
place_none [] c b h = refl
place_none (x ∷ xs) c b h =
    cond-false (x == b) (Some c) (place_in xs (c + 1) b) (ne_eqb x b (h 0 (omega arith)))
    ∙ place_none xs (c + 1) b (λ k l. h (suc k) (omega arith))

not_falling : (xs : List ℕ) → IsStrictlyIncreasing xs → (i j : ℕ) → i ≤ j → j < length xs → get_or xs i 0 ≤ get_or xs j 0
not_falling xs h i j a b =
    ⊎_elim (λ (l : i < j). omega (arith, rising_far xs h j i l b)) (λ (g : j ≤ i). let e : i ≡ j = omega arith in omega (arith, ap (λ k. get_or xs k 0) e)) (cases_lt i j)

pub child_found : (ns : List Node) (bytes : List ℕ) (s b i : ℕ) (n : Node) → n ≡ node_of ns s → IsStrictlyIncreasing (slice_range bytes n.edges n.edges_end) →
    IsBinarySearchResult (λ y. nat_cmp y b) (slice_range bytes n.edges n.edges_end) (Ok i) → Some (n.edges + i + 1) ≡ child_of ns bytes s b
child_found ns bytes s b i n e h r =
    let xs = slice_range bytes n.edges n.edges_end in
    let at = searched xs b (Ok i) r (not_falling xs h) in
    let more : n.edges + i + 1 ≡ (n.edges + 1) + i = omega arith in
    ap Some more
    ∙ sym (place_found xs (n.edges + 1) b i at.0 at.1 (λ k l. omega (arith, rising_far xs h i k l at.0, at.1)))
    ∙ ap (λ m. place_in (slice_range bytes m.edges m.edges_end) (m.edges + 1) b) e

pub child_none : (ns : List Node) (bytes : List ℕ) (s b i : ℕ) (n : Node) → n ≡ node_of ns s → IsStrictlyIncreasing (slice_range bytes n.edges n.edges_end) →
    IsBinarySearchResult (λ y. nat_cmp y b) (slice_range bytes n.edges n.edges_end) (Err i) → None ≡ child_of ns bytes s b
child_none ns bytes s b i n e h r =
    let xs = slice_range bytes n.edges n.edges_end in
    let at = searched xs b (Err i) r (not_falling xs h) in
    sym (place_none xs (n.edges + 1) b
    (λ k l q. ⊎_elim (λ (m : k < i). omega (arith, at.1 k m, q)) (λ (m : i ≤ k). omega (arith, at.2 k m l, q)) (cases_lt k i)))
    ∙ ap (λ m. place_in (slice_range bytes m.edges m.edges_end) (m.edges + 1) b) e
