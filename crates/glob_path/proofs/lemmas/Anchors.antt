-- What is found from one side of a path.
use Rattle.std.proofs.Common.{◌≡◌, ℕ, ◌+◌, ◌≤◌, ◌<◌, ◌^◌, Bool, true, false, Option, Some, None, cond, ◌&&◌, List, [], ◌∷◌, ◌++◌, length, map, reverse, refl, sym, ap, subst, ◌∙◌, arith, append-nil, length-append}
use Rattle.std.specs.Global.{Box}
use Rattle.std.specs.Str.{bytes_eq}
use Rattle.std.specs.List.{flat_map}
use Rattle.std.specs.Cmp.Lexicographic.{bytes_decides}
use Rattle.std.proofs.lemmas.List.{reverse-append, reverse-reverse, map-append, length-reverse}
use Rattle.std.proofs.lemmas.List.Folds.{flat_map-map}
use Rattle.bit_sets.proofs.lemmas.Booleans.{same_tests}
use Rattle.glob_path.specs.Entries.{Entry, indexes_under}
use Rattle.glob_path.specs.declared.trie.Anchor.{Anchor}
use Rattle.glob_path.specs.declared.trie.Anchor.TheVariants.{Start, End}
use Rattle.glob_path.specs.declared.tree.Tree.{Tree}
use Rattle.glob_path.specs.Texts.{Texts, prefixes, suffixes, parts, found}
use Rattle.glob_path.specs.inner.Anchors.{from_anchor, entry_from_anchor}
use Rattle.glob_path.specs.inner.Nodes.{under, along, IsTree}
use Rattle.glob_path.specs.inner.IsTrieOf.{HasTree, IsTrieOf}

pub length-from_anchor : (anchor : Anchor) (p : List ℕ) → length (from_anchor anchor p) ≡ length p
length-from_anchor Start p = refl
length-from_anchor End p = length-reverse p

along_prefixes : (f : List ℕ → List ℕ) (p : List ℕ) → along f p ≡ flat_map f (prefixes p)
along_prefixes f [] = sym (append-nil (f []))
along_prefixes f (b ∷ p) =
    ap (λ l. f [] ++ l) (along_prefixes (λ x. f (b ∷ x)) p ∙ sym (flat_map-map f (λ x. b ∷ x) (prefixes p)))

reversed_key : (k w : List ℕ) → bytes_eq (reverse k) w ≡ bytes_eq k (reverse w)
reversed_key k w =
    same_tests (bytes_eq (reverse k) w) (bytes_eq k (reverse w))
    (λ y. (bytes_decides k (reverse w)).1 (sym (reverse-reverse k) ∙ ap reverse ((bytes_decides (reverse k) w).0 y)))
    (λ y. (bytes_decides (reverse k) w).1 (ap reverse ((bytes_decides k (reverse w)).0 y) ∙ reverse-reverse w))

under_reversed : (es : List Entry) (w : List ℕ) → indexes_under (map (entry_from_anchor End) es) w ≡ indexes_under es (reverse w)
under_reversed [] w = refl
under_reversed (e ∷ es) w =
    ap (λ l. cond (bytes_eq (reverse e.key) w) (e.index ∷ l) l) (under_reversed es w)
    ∙ ap (λ b. cond b (e.index ∷ indexes_under es (reverse w)) (indexes_under es (reverse w))) (reversed_key e.key w)

pub under_as_is : (es : List Entry) (w : List ℕ) → indexes_under (map (entry_from_anchor Start) es) w ≡ indexes_under es w
under_as_is [] w = refl
under_as_is (e ∷ es) w = ap (λ l. cond (bytes_eq e.key w) (e.index ∷ l) l) (under_as_is es w)

prefixes_push : (q : List ℕ) (b : ℕ) → prefixes (q ++ b ∷ []) ≡ prefixes q ++ (q ++ b ∷ []) ∷ []
prefixes_push [] b = refl
prefixes_push (x ∷ q) b =
    ap (λ l. [] ∷ map (λ y. x ∷ y) l) (prefixes_push q b) ∙ ap (λ l. [] ∷ l) (map-append (λ y. x ∷ y) (prefixes q) ((q ++ b ∷ []) ∷ []))

reversed_suffixes : (p : List ℕ) → map reverse (prefixes (reverse p)) ≡ suffixes p
reversed_suffixes [] = refl
reversed_suffixes (b ∷ p) =
    ap (λ q. map reverse (prefixes q)) (reverse-append (b ∷ []) p)
    ∙ ap (map reverse) (prefixes_push (reverse p) b)
    ∙ map-append reverse (prefixes (reverse p)) ((reverse p ++ b ∷ []) ∷ [])
    ∙ ap (λ l. l ++ reverse (reverse p ++ b ∷ []) ∷ []) (reversed_suffixes p)
    ∙ ap (λ q. suffixes p ++ q ∷ []) (reverse-append (reverse p) (b ∷ []) ∙ ap (λ q. b ∷ q) (reverse-reverse p))

along_anchor : (anchor : Anchor) (es : List Entry) (p : List ℕ) → along (indexes_under (map (entry_from_anchor anchor) es)) (from_anchor anchor p) ≡ flat_map (indexes_under es) (parts anchor p)
along_anchor Start es p =
    ap (λ f. along f p) (λ i w. under_as_is es w i) ∙ along_prefixes (indexes_under es) p
along_anchor End es p =
    ap (λ f. along f (reverse p)) (λ i w. under_reversed es w i)
    ∙ along_prefixes (λ w. indexes_under es (reverse w)) (reverse p)
    ∙ sym (flat_map-map (indexes_under es) reverse (prefixes (reverse p)))
    ∙ ap (flat_map (indexes_under es)) (reversed_suffixes p)

found_along : (t : Tree) (anchor : Anchor) (es : List Entry) → IsTrieOf t anchor es → (p : List ℕ) →
    along (under t 0) (from_anchor anchor p) ≡ found (record { anchor = anchor; entries = es }) p
found_along t anchor es h p = ap (λ f. along f (from_anchor anchor p)) (λ i w. h.leads w i) ∙ along_anchor anchor es p

-- how often a text is in a list
occurrences : List ℕ → List (List ℕ) → ℕ
occurrences k [] = 0
occurrences k (x ∷ xs) = cond (bytes_eq k x) (occurrences k xs + 1) (occurrences k xs)

nothing_found : (xs : List (List ℕ)) → length (flat_map (λ x. indexes_under [] x) xs) ≡ 0
nothing_found [] = refl
nothing_found (x ∷ xs) = nothing_found xs

one_more : (b : Bool) (i : ℕ) (us fs : List ℕ) (n h : ℕ) → length fs ≡ n + h →
    (m : ℕ) → m ≡ length us + n → length (cond b (i ∷ us) us ++ fs) ≡ m + cond b (h + 1) h
one_more true i us fs n h e m d = omega (arith, length-append us fs)
one_more false i us fs n h e m d = omega (arith, length-append us fs)

found_more : (e : Entry) (es : List Entry) (xs : List (List ℕ)) →
    length (flat_map (indexes_under (e ∷ es)) xs) ≡ length (flat_map (indexes_under es) xs) + occurrences e.key xs
unfolding occurrences
found_more e es [] = refl
found_more e es (x ∷ xs) =
    one_more (bytes_eq e.key x) e.index (indexes_under es x) (flat_map (indexes_under (e ∷ es)) xs) (length (flat_map (indexes_under es) xs)) (occurrences e.key xs) (found_more e es xs)
    (length (indexes_under es x ++ flat_map (indexes_under es) xs)) (length-append (indexes_under es x) (flat_map (indexes_under es) xs))

found_at_most : (xs : List (List ℕ)) → ((k : List ℕ) → occurrences k xs ≤ 1) → (es : List Entry) → length (flat_map (indexes_under es) xs) ≤ length es
found_at_most xs h [] = omega (arith, nothing_found xs)
found_at_most xs h (e ∷ es) = omega (arith, found_more e es xs, h e.key, found_at_most xs h es)

no_occurrences : (b : ℕ) (xs : List (List ℕ)) → occurrences [] (map (λ x. b ∷ x) xs) ≡ 0
unfolding occurrences
no_occurrences b [] = refl
no_occurrences b (x ∷ xs) = no_occurrences b xs

less_often : (b c : Bool) (m n : ℕ) → m ≤ n → cond (b && c) (m + 1) m ≤ cond c (n + 1) n
less_often true true m n h = omega arith
less_often true false m n h = h
less_often false true m n h = omega arith
less_often false false m n h = h

fewer_occurrences : (c : ℕ) (k : List ℕ) (b : ℕ) (xs : List (List ℕ)) → occurrences (c ∷ k) (map (λ x. b ∷ x) xs) ≤ occurrences k xs
unfolding occurrences
fewer_occurrences c k b [] = omega arith
fewer_occurrences c k b (x ∷ xs) = less_often _ (bytes_eq k x) (occurrences (c ∷ k) (map (λ x. b ∷ x) xs)) (occurrences k xs) (fewer_occurrences c k b xs)

one_occurrence : (p k : List ℕ) → occurrences k (prefixes p) ≤ 1
unfolding occurrences
one_occurrence [] [] = omega arith
one_occurrence [] (c ∷ k) = omega arith
one_occurrence (b ∷ p) [] = omega (arith, no_occurrences b (prefixes p))
one_occurrence (b ∷ p) (c ∷ k) = omega (arith, fewer_occurrences c k b (prefixes p), one_occurrence p k)

occurrences_reversed : (k : List ℕ) (xs : List (List ℕ)) → occurrences k (map reverse xs) ≡ occurrences (reverse k) xs
unfolding occurrences
occurrences_reversed k [] = refl
occurrences_reversed k (x ∷ xs) =
    ap (λ b. cond b (occurrences k (map reverse xs) + 1) (occurrences k (map reverse xs))) (sym (reversed_key k x))
    ∙ ap (λ n. cond (bytes_eq (reverse k) x) (n + 1) n) (occurrences_reversed k xs)

one_part : (anchor : Anchor) (p k : List ℕ) → occurrences k (parts anchor p) ≤ 1
one_part Start p k = one_occurrence p k
one_part End p k = omega (arith, ap (occurrences k) (reversed_suffixes p), occurrences_reversed k (prefixes (reverse p)), one_occurrence (reverse p) (reverse k))

-- no text is found twice
pub found_within : (t : Texts) (p : List ℕ) → length (found t p) ≤ length t.entries
found_within t p = found_at_most (parts t.anchor p) (one_part t.anchor p) t.entries

pub found_in_none : (ps : List (List ℕ)) → flat_map (indexes_under []) ps ≡ []
found_in_none [] = refl
found_in_none (p ∷ ps) = found_in_none ps

pub found_nothing : (anchor : Anchor) (entries : List Entry) → entries ≡ [] → (p : List ℕ) → found (record { anchor = anchor; entries = entries }) p ≡ []
found_nothing anchor entries none p = ap (λ es. found (record { anchor = anchor; entries = es }) p) none ∙ found_in_none (parts anchor p)

-- ---- what a trie finds, by its tree or without one

module _ (anchor : Anchor) (es : List Entry) {tree : Option (Box Tree)} {b : Box Tree} {t : Tree} (is : tree ≡ Some b) (same : t ≡ b.value) (h : HasTree tree anchor es) where
  trie : IsTrieOf b.value anchor es
  trie = subst (λ o. HasTree o anchor es) is h

  pub some_tree : IsTree t
  some_tree = subst IsTree (sym same) trie.tree

  pub found_by_tree : (p : List ℕ) → along (under t 0) (from_anchor anchor p) ≡ found (record { anchor = anchor; entries = es }) p
  found_by_tree p = ap (λ t. along (under t 0) (from_anchor anchor p)) same ∙ found_along b.value anchor es trie p

  pub few_by_tree : (p : List ℕ) → length (along (under t 0) (from_anchor anchor p)) < 2 ^ 64
  few_by_tree p = omega (arith, ap length (found_by_tree p), found_within (record { anchor = anchor; entries = es }) p, trie.small)

pub found_without_tree : (anchor : Anchor) (es : List Entry) {tree : Option (Box Tree)} → tree ≡ None → HasTree tree anchor es → (p : List ℕ) → found (record { anchor = anchor; entries = es }) p ≡ []
found_without_tree anchor es is h p = found_nothing anchor es (subst (λ o. HasTree o anchor es) is h) p
