-- One more key: which indexes are found in addition, and how many.
use Rattle.std.proofs.Common.{◌≡◌, ℕ, zero, suc, ◌+◌, ◌≤◌, ◌⊎◌, inl, inr, Bool, true, false, cond, not, ◌&&◌, ◌==◌, List, [], ◌∷◌, ◌++◌, length, map, IsTrue, refl, ap, sym, subst, ◌∙◌, arith}
use Rattle.std.specs.Prelude.{◌↔◌, Contains}
use Rattle.std.specs.List.{flat_map}
use Rattle.std.specs.Str.{bytes_eq}
use Rattle.std.specs.Cmp.Lexicographic.{bytes_decides}
use Rattle.std.proofs.Math.Logic.{⊎_elim}
use Rattle.std.proofs.lemmas.Bool.{eqb-true}
use Rattle.std.proofs.lemmas.List.{length-append}
use Rattle.std.proofs.lemmas.List.Elements.{Contains-append_left, Contains-append_right, Contains-append_cases}
use Rattle.bit_sets.proofs.lemmas.Booleans.{same_truth}
use Rattle.bit_sets.proofs.lemmas.IndexSets.{in_one}
use Rattle.glob_path.specs.Entries.{Entry, entry, indexes_under}
use Rattle.glob_path.proofs.lemmas.Entries.{with_index}
use Rattle.glob_path.proofs.lemmas.Entries.{indexes_added}
use Rattle.glob_path.specs.declared.trie.Anchor.{Anchor}
use Rattle.glob_path.specs.declared.trie.Anchor.TheVariants.{Start, End}
use Rattle.glob_path.specs.Texts.{prefixes, suffixes, parts, found}
use Rattle.glob_path.specs.Laws.{IsAt}
use Rattle.glob_path.proofs.lemmas.Laws.{finds_exactly}
use Rattle.glob_path.specs.Key.{KeyMatches, KeyValue}
use Rattle.glob_path.specs.Key as path_key
use Rattle.glob_path.specs.PathParts.{last_component, component_extension}
use Rattle.glob_path.proofs.lemmas.Anchors.{found_in_none}
use Rattle.set_matcher.specs.inner.LiteralIndex.{FindsMore, KeyParts, MoreIn, after_separator, keys_found, no_keys, texts_at, with_path, with_component, with_components, with_extension, with_beginning, with_end, with_key}

-- ---- truth values

true_or_false : (b : Bool) → IsTrue b ⊎ (b ≡ false)
true_or_false true = inl refl
true_or_false false = inr refl

-- ---- lists

contains_push : (xs : List ℕ) (n k : ℕ) → Contains (xs ++ n ∷ []) k ↔ (Contains xs k ⊎ (n ≡ k))
contains_push xs n k = (
  λ h. ⊎_elim {C = Contains xs k ⊎ (n ≡ k)} (λ old. inl old) (λ new. inr (in_one n k new)) (Contains-append_cases xs (n ∷ []) k h),
  λ h. ⊎_elim {C = Contains (xs ++ n ∷ []) k} (λ old. Contains-append_left xs (n ∷ []) k old) (λ is. Contains-append_right xs (n ∷ []) k (0, omega arith, is)) h,
)

none_more : (xs : List ℕ) (n : ℕ) → MoreIn xs xs n false
none_more xs n = record {
  has = λ k. (λ h. inl h, λ h. ⊎_elim {C = Contains xs k} (λ old. old) (λ new. let no = new.1 in absurd (cc)) h);
  count = omega arith;
}

more_left : (a b c : List ℕ) (n : ℕ) (m : Bool) → MoreIn a b n m → MoreIn (a ++ c) (b ++ c) n m
more_left a b c n m more = record {
  has = λ k. (
    λ h. ⊎_elim {C = Contains (a ++ c) k ⊎ ((n ≡ k) × IsTrue m)}
        (λ front. ⊎_elim {C = Contains (a ++ c) k ⊎ ((n ≡ k) × IsTrue m)} (λ old. inl (Contains-append_left a c k old)) (λ new. inr new) ((more.has k).0 front))
        (λ back. inl (Contains-append_right a c k back)) (Contains-append_cases b c k h),
    λ h. ⊎_elim {C = Contains (b ++ c) k}
        (λ old. ⊎_elim {C = Contains (b ++ c) k} (λ front. Contains-append_left b c k ((more.has k).1 (inl front))) (λ back. Contains-append_right b c k back) (Contains-append_cases a c k old))
        (λ new. Contains-append_left b c k ((more.has k).1 (inr new))) h,
  );
  count = omega (arith, more.count, length-append a c, length-append b c);
}

more_right : (c a b : List ℕ) (n : ℕ) (m : Bool) → MoreIn a b n m → MoreIn (c ++ a) (c ++ b) n m
more_right c a b n m more = record {
  has = λ k. (
    λ h. ⊎_elim {C = Contains (c ++ a) k ⊎ ((n ≡ k) × IsTrue m)}
        (λ front. inl (Contains-append_left c a k front))
        (λ back. ⊎_elim {C = Contains (c ++ a) k ⊎ ((n ≡ k) × IsTrue m)} (λ old. inl (Contains-append_right c a k old)) (λ new. inr new) ((more.has k).0 back)) (Contains-append_cases c b k h),
    λ h. ⊎_elim {C = Contains (c ++ b) k}
        (λ old. ⊎_elim {C = Contains (c ++ b) k} (λ front. Contains-append_left c b k front) (λ back. Contains-append_right c b k ((more.has k).1 (inl back))) (Contains-append_cases c a k old))
        (λ new. Contains-append_right c b k ((more.has k).1 (inr new))) h,
  );
  count = omega (arith, more.count, length-append c a, length-append c b);
}

few_twice : (m p q : Bool) → (IsTrue p → IsTrue q → ⊥) → (IsTrue m ↔ (IsTrue p ⊎ IsTrue q)) → cond p 1 0 + cond q 1 0 ≤ cond m 1 0
few_twice m true true apart same = absurd (apart refl refl)
few_twice true true false apart same = omega arith
few_twice true false true apart same = omega arith
few_twice m false false apart same = omega arith
few_twice false true false apart same = let no = same.1 (inl refl) in absurd (cc)
few_twice false false true apart same = let no = same.1 (inr refl) in absurd (cc)

-- two keys more, at most one of which finds n
more_twice : (a b c : List ℕ) (n : ℕ) (m p q : Bool) → MoreIn a b n p → MoreIn b c n q → (IsTrue p → IsTrue q → ⊥) → (IsTrue m ↔ (IsTrue p ⊎ IsTrue q)) → MoreIn a c n m
more_twice a b c n m p q one two apart same = record {
  has = λ k. (
    λ h. ⊎_elim {C = Contains a k ⊎ ((n ≡ k) × IsTrue m)}
        (λ mid. ⊎_elim {C = Contains a k ⊎ ((n ≡ k) × IsTrue m)} (λ old. inl old) (λ new. inr (new.0, same.1 (inl new.1))) ((one.has k).0 mid))
        (λ new. inr (new.0, same.1 (inr new.1))) ((two.has k).0 h),
    λ h. ⊎_elim {C = Contains c k}
        (λ old. (two.has k).1 (inl ((one.has k).1 (inl old))))
        (λ new. ⊎_elim {C = Contains c k} (λ first. (two.has k).1 (inl ((one.has k).1 (inr (new.0, first))))) (λ second. (two.has k).1 (inr (new.0, second))) (same.0 new.1)) h,
  );
  count = let few = few_twice m p q apart same in omega (arith, one.count, two.count, few);
}

-- ---- a table

with_index_more : (b : Bool) (xs : List ℕ) (n : ℕ) → MoreIn xs (with_index b n xs) n b
with_index_more true xs n = record {
  has = λ k. (
    λ h. ⊎_elim {C = Contains xs k ⊎ ((n ≡ k) × IsTrue true)} (λ old. inl old) (λ is. inr (is, refl)) ((contains_push xs n k).0 h),
    λ h. (contains_push xs n k).1 (⊎_elim {C = Contains xs k ⊎ (n ≡ k)} (λ old. inl old) (λ new. inr new.0) h),
  );
  count = omega (arith, length-append xs (n ∷ []));
}
with_index_more false xs n = none_more xs n

table_more : (es : List Entry) (key : List ℕ) (n : ℕ) (q : List ℕ) (m : Bool) → (IsTrue m ↔ (q ≡ key)) → MoreIn (indexes_under es q) (indexes_under (es ++ entry key n ∷ []) q) n m
table_more es key n q m tells =
    let xs = indexes_under es q in
    let b = bytes_eq key q in
    let same : m ≡ b = same_truth m b ((λ h. (bytes_decides key q).1 (sym (tells.0 h))), (λ h. tells.1 (sym ((bytes_decides key q).0 h)))) in
    subst (λ ys. MoreIn xs ys n m) (sym (indexes_added es key n q)) (subst (λ x. MoreIn xs (with_index b n xs) n x) (sym same) (with_index_more b xs n))

-- ---- a trie

-- how often the key is in the list
abbrev count_of : List ℕ → List (List ℕ) → ℕ
count_of key [] = 0
count_of key (q ∷ qs) = cond (bytes_eq key q) 1 0 + count_of key qs

length_with_index : (b : Bool) (n : ℕ) (xs : List ℕ) → length (with_index b n xs) ≡ length xs + cond b 1 0
length_with_index true n xs = length-append xs (n ∷ [])
length_with_index false n xs = omega arith

length_found : (es : List Entry) (key : List ℕ) (n : ℕ) (qs : List (List ℕ))
    → length (flat_map (indexes_under (es ++ entry key n ∷ [])) qs) ≡ length (flat_map (indexes_under es) qs) + count_of key qs
length_found es key n [] = refl
length_found es key n (q ∷ qs) =
    let new = es ++ entry key n ∷ [] in
    let here = ap length (indexes_added es key n q) ∙ length_with_index (bytes_eq key q) n (indexes_under es q) in
    let later = length_found es key n qs in
    omega (arith, here, later, length-append (indexes_under new q) (flat_map (indexes_under new) qs), length-append (indexes_under es q) (flat_map (indexes_under es) qs))

-- a key is at most once among the parts of a path, and only if the path has it there
abbrev IsOnce : List ℕ → List (List ℕ) → Type 0 → Type 0
IsOnce key qs At = (count_of key qs ≡ 0) ⊎ ((count_of key qs ≡ 1) × At)

no_empty : (b : ℕ) (qs : List (List ℕ)) → count_of [] (map (λ x. b ∷ x) qs) ≡ 0
no_empty b [] = refl
no_empty b (q ∷ qs) = let rest = no_empty b qs in omega (arith, rest)

count_longer : (c : ℕ) (ks : List ℕ) (b : ℕ) (qs : List (List ℕ)) → count_of (c ∷ ks) (map (λ x. b ∷ x) qs) ≡ cond (c == b) (count_of ks qs) 0
count_longer c ks b [] = by_case (c == b)
  where
    by_case : (e : Bool) → ◌≡◌ {A = ℕ} 0 (cond e 0 0)
    by_case true = refl
    by_case false = refl
count_longer c ks b (q ∷ qs) = ap (λ (x : ℕ). cond ((c == b) && bytes_eq ks q) 1 0 + x) (count_longer c ks b qs) ∙ by_case (c == b)
  where
    by_case : (e : Bool) → ◌≡◌ {A = ℕ} (cond (e && bytes_eq ks q) 1 0 + cond e (count_of ks qs) 0) (cond e (cond (bytes_eq ks q) 1 0 + count_of ks qs) 0)
    by_case true = refl
    by_case false = omega arith

once_at_beginning : (key p : List ℕ) → IsOnce key (prefixes p) (IsAt Start p key)
once_at_beginning [] [] = inr (refl, ([], refl))
once_at_beginning (c ∷ ks) [] = inl refl
once_at_beginning [] (b ∷ p) = (let rest = no_empty b (prefixes p) in inr (omega (arith, rest), (b ∷ p, refl)))
once_at_beginning (c ∷ ks) (b ∷ p) = by_case (c == b) refl (once_at_beginning ks p)
  where
    by_case : (e : Bool) → (c == b) ≡ e → IsOnce ks (prefixes p) (IsAt Start p ks) → IsOnce (c ∷ ks) (prefixes (b ∷ p)) (IsAt Start (b ∷ p) (c ∷ ks))
    by_case false h rest =
        let longer : count_of (c ∷ ks) (map (λ x. b ∷ x) (prefixes p)) ≡ 0 = count_longer c ks b (prefixes p) ∙ ap (λ x. cond x (count_of ks (prefixes p)) 0) h in
        inl (omega (arith, longer))
    by_case true h rest =
        let longer : count_of (c ∷ ks) (map (λ x. b ∷ x) (prefixes p)) ≡ count_of ks (prefixes p) = count_longer c ks b (prefixes p) ∙ ap (λ x. cond x (count_of ks (prefixes p)) 0) h in
        let is : count_of (c ∷ ks) (prefixes (b ∷ p)) ≡ count_of ks (prefixes p) = omega (arith, longer) in
        ⊎_elim {C = IsOnce (c ∷ ks) (prefixes (b ∷ p)) (IsAt Start (b ∷ p) (c ∷ ks))} (λ none. inl (is ∙ none))
        (λ one. inr (is ∙ one.0, (one.1.0, (λ i. eqb-true c b h i ∷ one.1.1 i)))) rest

count_append : (key : List ℕ) (xs ys : List (List ℕ)) → count_of key (xs ++ ys) ≡ count_of key xs + count_of key ys
count_append key [] ys = omega arith
count_append key (x ∷ xs) ys = let rest = count_append key xs ys in omega (arith, rest)

once_at_end : (key p : List ℕ) → IsOnce key (suffixes p) (IsAt End p key)
once_at_end [] [] = inr (refl, ([], refl))
once_at_end (c ∷ ks) [] = inl refl
once_at_end key (b ∷ p) = by_case (bytes_eq key (b ∷ p)) refl (once_at_end key p)
  where
    by_case : (e : Bool) → bytes_eq key (b ∷ p) ≡ e → IsOnce key (suffixes p) (IsAt End p key) → IsOnce key (suffixes (b ∷ p)) (IsAt End (b ∷ p) key)
    by_case true h rest =
        let is : key ≡ b ∷ p = (bytes_decides key (b ∷ p)).0 h in
        let split = count_append key (suffixes p) ((b ∷ p) ∷ []) in
        let here : ◌≡◌ {A = ℕ} (cond (bytes_eq key (b ∷ p)) 1 0) 1 = ap (λ x. cond x 1 0) h in
        ⊎_elim {C = IsOnce key (suffixes (b ∷ p)) (IsAt End (b ∷ p) key)} (λ none. inr (omega (arith, split, here, none), ([], is)))
        (λ one. let len = ap length one.1.1 in let both = length-append one.1.0 key in let long = ap length is in absurd (omega (arith, len, both, long))) rest
    by_case false h rest =
        let split = count_append key (suffixes p) ((b ∷ p) ∷ []) in
        let here : ◌≡◌ {A = ℕ} (cond (bytes_eq key (b ∷ p)) 1 0) 0 = ap (λ x. cond x 1 0) h in
        ⊎_elim {C = IsOnce key (suffixes (b ∷ p)) (IsAt End (b ∷ p) key)} (λ none. inl (omega (arith, split, here, none)))
        (λ one. let few = one.0 in inr (omega (arith, split, here, few), (b ∷ one.1.0, ap (λ l. b ∷ l) one.1.1))) rest

once_at : (anchor : Anchor) (key p : List ℕ) → IsOnce key (parts anchor p) (IsAt anchor p key)
once_at Start key p = once_at_beginning key p
once_at End key p = once_at_end key p

trie_more : (anchor : Anchor) (es : List Entry) (key : List ℕ) (n : ℕ) (p : List ℕ) (m : Bool) → (IsTrue m ↔ IsAt anchor p key)
    → MoreIn (found (texts_at anchor es) p) (found (texts_at anchor (es ++ entry key n ∷ [])) p) n m
trie_more anchor es key n p m tells = record {
  has = λ k. (
    λ h. let (text, in_new, at) = (finds_exactly (texts_at anchor new) p k).0 h in
        ⊎_elim {C = Contains (found (texts_at anchor es) p) k ⊎ ((n ≡ k) × IsTrue m)}
        (λ old. inl ((finds_exactly (texts_at anchor es) p k).1 (text, old, at)))
        (λ last. let is = in_one_entry (entry key n) (entry text k) last in
        inr (ap (λ (e : Entry). e.index) is, tells.1 (subst (λ t. IsAt anchor p t) (sym (ap (λ (e : Entry). e.key) is)) at)))
        (Contains-append_cases es (entry key n ∷ []) (entry text k) in_new),
    λ h. ⊎_elim {C = Contains (found (texts_at anchor new) p) k}
        (λ old. let (text, in_old, at) = (finds_exactly (texts_at anchor es) p k).0 old in
        (finds_exactly (texts_at anchor new) p k).1 (text, Contains-append_left es (entry key n ∷ []) (entry text k) in_old, at))
        (λ this. (finds_exactly (texts_at anchor new) p k).1 (key, Contains-append_right es (entry key n ∷ []) (entry key k) (0, omega arith, ap (λ (j : ℕ). entry key j) this.0), tells.0 this.1)) h,
  );
  count = let more = length_found es key n (parts anchor p) in
      ⊎_elim {C = length (found (texts_at anchor new) p) ≤ length (found (texts_at anchor es) p) + cond m 1 0}
      (λ none. omega (arith, more, none))
      (λ one. let is : m ≡ true = tells.1 one.1 in let few = one.0 in let counts : ◌≡◌ {A = ℕ} (cond m 1 0) 1 = ap (λ x. cond x 1 0) is in omega (arith, more, few, counts))
      (once_at anchor key p);
}
  where
    new : List Entry
    new = es ++ entry key n ∷ []

    in_one_entry : (a b : Entry) → Contains (a ∷ []) b → a ≡ b
    in_one_entry a b (zero, lt, e) = e
    in_one_entry a b (suc j, lt, e) = absurd (omega (arith, lt))

-- ---- all keys

-- what is found after the indexes under the extension, the last component and the whole path
abbrev after_extensions : KeyParts → List ℕ → List ℕ
after_extensions t path = found (texts_at Start t.prefixes) path ++ found (texts_at End t.ends) path

abbrev after_components : KeyParts → List ℕ → List ℕ
after_components t path = indexes_under t.extensions (component_extension path) ++ after_extensions t path

abbrev after_paths : KeyParts → List ℕ → List ℕ
after_paths t path = indexes_under t.components (last_component path) ++ after_components t path

path_more : (t : KeyParts) (key : List ℕ) (n : ℕ) (path : List ℕ) (m : Bool) → (IsTrue m ↔ (path ≡ key)) → MoreIn (keys_found t path) (keys_found (with_path t key n) path) n m
path_more t key n path m tells =
    more_left (indexes_under t.paths path) (indexes_under (t.paths ++ entry key n ∷ []) path) (after_paths t path) n m (table_more t.paths key n path m tells)

component_more : (t : KeyParts) (key : List ℕ) (n : ℕ) (path : List ℕ) (m : Bool) → (IsTrue m ↔ (last_component path ≡ key))
    → MoreIn (keys_found t path) (keys_found (with_component t key n) path) n m
component_more t key n path m tells =
    let new = with_component t key n in
    more_right (indexes_under t.paths path) (after_paths t path) (after_paths new path) n m
    (more_left (indexes_under t.components (last_component path)) (indexes_under new.components (last_component path)) (after_components t path) n m
    (table_more t.components key n (last_component path) m tells))

extension_more : (t : KeyParts) (key : List ℕ) (n : ℕ) (path : List ℕ) (m : Bool) → (IsTrue m ↔ (component_extension path ≡ key))
    → MoreIn (keys_found t path) (keys_found (with_extension t key n) path) n m
extension_more t key n path m tells =
    let new = with_extension t key n in
    more_right (indexes_under t.paths path) (after_paths t path) (after_paths new path) n m
    (more_right (indexes_under t.components (last_component path)) (after_components t path) (after_components new path) n m
    (more_left (indexes_under t.extensions (component_extension path)) (indexes_under new.extensions (component_extension path)) (after_extensions t path) n m
    (table_more t.extensions key n (component_extension path) m tells)))

beginning_more : (t : KeyParts) (key : List ℕ) (n : ℕ) (path : List ℕ) (m : Bool) → (IsTrue m ↔ IsAt Start path key)
    → MoreIn (keys_found t path) (keys_found (with_beginning t key n) path) n m
beginning_more t key n path m tells =
    let new = with_beginning t key n in
    more_right (indexes_under t.paths path) (after_paths t path) (after_paths new path) n m
    (more_right (indexes_under t.components (last_component path)) (after_components t path) (after_components new path) n m
    (more_right (indexes_under t.extensions (component_extension path)) (after_extensions t path) (after_extensions new path) n m
    (more_left (found (texts_at Start t.prefixes) path) (found (texts_at Start new.prefixes) path) (found (texts_at End t.ends) path) n m
    (trie_more Start t.prefixes key n path m tells))))

end_more : (t : KeyParts) (key : List ℕ) (n : ℕ) (path : List ℕ) (m : Bool) → (IsTrue m ↔ IsAt End path key)
    → MoreIn (keys_found t path) (keys_found (with_end t key n) path) n m
end_more t key n path m tells =
    let new = with_end t key n in
    more_right (indexes_under t.paths path) (after_paths t path) (after_paths new path) n m
    (more_right (indexes_under t.components (last_component path)) (after_components t path) (after_components new path) n m
    (more_right (indexes_under t.extensions (component_extension path)) (after_extensions t path) (after_extensions new path) n m
    (more_right (found (texts_at Start t.prefixes) path) (found (texts_at End t.ends) path) (found (texts_at End new.ends) path) n m
    (trie_more End t.ends key n path m tells))))

-- the path is the key, or ends with `/` and the key
components_more : (t : KeyParts) (key : List ℕ) (n : ℕ) (path : List ℕ) (m : Bool) → (IsTrue m ↔ ((path ≡ key) ⊎ IsAt End path (after_separator key)))
    → MoreIn (keys_found t path) (keys_found (with_components t key n) path) n m
components_more t key n path m tells =
    more_twice (keys_found t path) (keys_found (with_path t key n) path) (keys_found (with_components t key n) path) n m whole end
    (path_more t key n path whole ((λ h. (bytes_decides path key).0 h), (λ e. (bytes_decides path key).1 e)))
    (end_more (with_path t key n) (after_separator key) n path end (at_end, is_end)) apart
    ((λ h. either h), (λ h. ⊎_elim {C = IsTrue m} (λ w. tells.1 (inl ((bytes_decides path key).0 w))) (λ e. tells.1 (inr (at_end e))) h))
  where
    whole : Bool
    whole = bytes_eq path key

    end : Bool
    end = not whole && m

    both : (a b : Bool) → (not a && b) ≡ true → (a ≡ false) × (b ≡ true)
    both true b h = absurd (cc)
    both false b h = (refl, h)

    join : (a b : Bool) → a ≡ false → b ≡ true → (not a && b) ≡ true
    join true b h k = absurd (cc)
    join false b h k = k

    apart : IsTrue whole → IsTrue end → ⊥
    apart w e = let off = (both whole m e).0 in absurd (cc)

    at_end : IsTrue end → IsAt End path (after_separator key)
    at_end e =
        let off = (both whole m e).0 in
        ⊎_elim {C = IsAt End path (after_separator key)} (λ is. let w = (bytes_decides path key).1 is in absurd (cc)) (λ at. at) (tells.0 (both whole m e).1)

    longer : IsAt End path (after_separator key) → path ≡ key → ⊥
    longer at is = let len = ap length at.1 in let sum = length-append at.0 (after_separator key) in let same = ap length is in omega (arith, len, sum, same)

    is_end : IsAt End path (after_separator key) → IsTrue end
    is_end at = join whole m (⊎_elim {C = whole ≡ false} (λ w. absurd (longer at ((bytes_decides path key).0 w))) (λ off. off) (true_or_false whole)) (tells.1 (inr at))

    either : IsTrue m → IsTrue whole ⊎ IsTrue end
    either h = ⊎_elim {C = IsTrue whole ⊎ IsTrue end} (λ w. inl w) (λ off. inr (join whole m off h)) (true_or_false whole)

-- ---- no keys

nothing_found : (path : List ℕ) → keys_found no_keys path ≡ []
nothing_found path = λ i. found_in_none (prefixes path) i ++ found_in_none (suffixes path) i

pub nothing_if : (t : KeyParts) → t ≡ no_keys → (path : List ℕ) → keys_found t path ≡ []
nothing_if t is path = subst (λ k. keys_found k path ≡ []) (sym is) (nothing_found path)

-- ---- keys that are old ones and one more

key_more : (t : KeyParts) (key : KeyValue) (n : ℕ) (path : List ℕ) (m : Bool) → (IsTrue m ↔ KeyMatches key path) → MoreIn (keys_found t path) (keys_found (with_key t key n) path) n m
key_more t (path_key.Literal bytes) n path m tells = path_more t bytes n path m tells
key_more t (path_key.BasenameLiteral bytes) n path m tells = component_more t bytes n path m tells
key_more t (path_key.Extension bytes) n path m tells = extension_more t bytes n path m tells
key_more t (path_key.ComponentSuffix bytes) n path m tells = components_more t bytes n path m tells
key_more t (path_key.Suffix bytes) n path m tells = end_more t bytes n path m tells
key_more t (path_key.Prefix bytes) n path m tells = beginning_more t bytes n path m tells

pub finds_key : (old new : KeyParts) (key : KeyValue) (n : ℕ) → new ≡ with_key old key n → FindsMore old new n (KeyMatches key)
finds_key old new key n is path m tells = subst (λ t. MoreIn (keys_found old path) (keys_found t path) n m) (sym is) (key_more old key n path m tells)
