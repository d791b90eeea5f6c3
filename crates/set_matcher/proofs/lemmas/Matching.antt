-- What is found for a path, by keys and by automata.
use Rattle.std.proofs.Common.{◌≡◌, ◌≢◌, ℕ, zero, suc, ◌+◌, ◌<◌, ◌≤◌, ◌⊎◌, inl, inr, Bool, true, false, cond, ◌||◌, ◌==◌, List, [], ◌∷◌, Option, Some, None, length, IsTrue, refl, ap, sym, ◌∙◌, arith}
use Rattle.std.specs.Prelude.{◌↔◌, ◌^◌, Contains, MatchOption, filter}
use Rattle.std.specs.List.{list_any, range_with_len}
use Rattle.std.specs.Option.{option_eq}
use Rattle.std.proofs.Math.Logic.{⊎_elim}
use Rattle.std.proofs.lemmas.Bool.{eqb-true, eq-eqb}
use Rattle.std.proofs.lemmas.List.Sums.{sum_by-append}
use Rattle.std.proofs.lemmas.Map.Steps.{le-length_from_below}
use Rattle.set_matcher.specs.inner.TokenGlobs.{TokenGlob, is_reported, is_reported_at, reported_indexes}
use Rattle.set_matcher.specs.Indexes.{ContainsAllBelow}
use Rattle.set_matcher.specs.inner.LiteralIndex.{keys_found}
use Rattle.set_matcher.specs.inner.Automata.{AreFound, AreIdle}
use Rattle.set_matcher.specs.inner.SetMatcher.{SetMatcherParts, IsSetMatcherOf, listed_count}
use Rattle.set_matcher.proofs.lemmas.Indexes.{passing_is_contained, contained_passes, passes_within, all_pass, some_index, index_in}
use Rattle.bit_sets.proofs.lemmas.Filters.{filter_same}
use Rattle.bit_sets.proofs.lemmas.Booleans.{same_truth}

-- a listed glob is in the list
in_listed : (globs : List TokenGlob) (path : List ℕ) (k : ℕ) → IsTrue (is_reported_at globs path k) → Contains (reported_indexes globs path) k
in_listed globs path k h = passing_is_contained (λ g. is_reported g path) globs k (passes_within (λ g. is_reported g path) globs k h) h

listed_in : (globs : List TokenGlob) (path : List ℕ) (k : ℕ) → Contains (reported_indexes globs path) k → IsTrue (is_reported_at globs path k)
listed_in globs path k h = (contained_passes (λ g. is_reported g path) globs k h).1

-- ---- all indexes

-- what automata found is marked, and then what keys find: these are the listed globs
pub marked_listed : (globs : List TokenGlob) (g : SetMatcherParts) (path : List ℕ) (room : ℕ) (found has : ℕ → Bool) (are : IsSetMatcherOf globs g) → length globs ≤ room
    → ((k : ℕ) → IsTrue (found k) ↔ AreFound g.automata.extensions.slots are.tokens path k)
    → ((k : ℕ) → IsTrue (has k) ↔ ((Contains (keys_found g.keys path) k × (k < room)) ⊎ IsTrue (found k)))
    → (k : ℕ) → IsTrue (has k) ↔ IsTrue (is_reported_at globs path k)
marked_listed globs g path room found has are fits by_automata also k = (
  λ h. (are.same path k).0 (⊎_elim {C = Contains (keys_found g.keys path) k ⊎ AreFound g.automata.extensions.slots are.tokens path k} (λ key. inl key.0) (λ f. inr ((by_automata k).0 f)) ((also k).0 h)),
  λ yes_at. (also k).1 (⊎_elim {C = (Contains (keys_found g.keys path) k × (k < room)) ⊎ IsTrue (found k)}
      (λ key. let within = passes_within (λ x. is_reported x path) globs k yes_at in inl (key, omega (arith, within, fits)))
      (λ f. inr ((by_automata k).1 f)) ((are.same path k).1 yes_at)),
)

-- the marked indexes in order
pub marked_are : (globs : List TokenGlob) (path : List ℕ) (n : ℕ) (has : ℕ → Bool) → length globs ≡ n → ((k : ℕ) → IsTrue (has k) ↔ IsTrue (is_reported_at globs path k))
    → filter has (range_with_len 0 n) ≡ reported_indexes globs path
marked_are globs path n has count same =
    ap (λ m. filter has (range_with_len 0 m)) (sym count) ∙ filter_same has (is_reported_at globs path) (length globs) (λ k. same_truth (has k) (is_reported_at globs path k) (same k))

-- every index is marked
pub all_marked : (globs : List TokenGlob) (path : List ℕ) (n : ℕ) (has : ℕ → Bool) → length globs ≡ n → ((k : ℕ) → IsTrue (has k) ↔ IsTrue (is_reported_at globs path k))
    → ((k : ℕ) → k < n → IsTrue (has k)) ↔ ContainsAllBelow (reported_indexes globs path) (length globs)
all_marked globs path n has count same = (
  λ all i lt. in_listed globs path i ((same i).0 (all i (omega (arith, lt, count)))),
  λ all k lt. (same k).1 (listed_in globs path k (all k (omega (arith, lt, count)))),
)

-- no automaton is run
pub keys_listed : (globs : List TokenGlob) (g : SetMatcherParts) (path : List ℕ) → IsSetMatcherOf globs g → AreIdle g.automata path → (k : ℕ) → Contains (keys_found g.keys path) k ↔ Contains (reported_indexes globs path) k
keys_listed globs g path are idle k = (
  λ h. in_listed globs path k ((are.same path k).0 (inl h)),
  λ h. ⊎_elim {C = Contains (keys_found g.keys path) k} (λ key. key) (λ found. absurd (idle.none are.tokens are.are_for k found)) ((are.same path k).1 (listed_in globs path k h)),
)

-- ---- some index

pub none_from : (xs : List ℕ) → (xs ≢ [] → ⊥) → xs ≡ []
none_from [] h = refl
none_from (x ∷ xs) h = absurd (h (λ e. let n = ap length e in omega (arith, n)))

-- no key is found, and no automaton is run
pub nothing_listed : (globs : List TokenGlob) (g : SetMatcherParts) (path : List ℕ) → IsSetMatcherOf globs g → AreIdle g.automata path → keys_found g.keys path ≡ [] → reported_indexes globs path ≡ []
nothing_listed globs g path are idle none =
    none_from (reported_indexes globs path)
    (λ some. let (k, in_all) = some_index (reported_indexes globs path) some in index_in (keys_found g.keys path) k ((keys_listed globs g path are idle k).1 in_all) none)

-- some glob is reported
pub some_listed : (globs : List TokenGlob) (path : List ℕ) → (reported_indexes globs path ≢ []) ↔ ((k : ℕ) × IsTrue (is_reported_at globs path k))
some_listed globs path = (
  λ h. let (k, in_all) = some_index (reported_indexes globs path) h in (k, listed_in globs path k in_all),
  λ (k, at). index_in (reported_indexes globs path) k (in_listed globs path k at),
)

pub some_key : (globs : List TokenGlob) (g : SetMatcherParts) (path : List ℕ) → IsSetMatcherOf globs g → keys_found g.keys path ≢ [] → IsTrue true ↔ (reported_indexes globs path ≢ [])
some_key globs g path are some =
    let (k, key) = some_index (keys_found g.keys path) some in
    (λ t. index_in (reported_indexes globs path) k (in_listed globs path k ((are.same path k).0 (inl key))), λ h. refl)

pub some_found : (globs : List TokenGlob) (g : SetMatcherParts) (path : List ℕ) (r : Bool) (are : IsSetMatcherOf globs g) → (keys_found g.keys path ≢ [] → ⊥)
    → (IsTrue r ↔ ((k : ℕ) × AreFound g.automata.extensions.slots are.tokens path k)) → IsTrue r ↔ (reported_indexes globs path ≢ [])
some_found globs g path r are off same = (
  λ h. let (k, found) = same.0 h in index_in (reported_indexes globs path) k (in_listed globs path k ((are.same path k).0 (inr found))),
  λ h. let (k, in_all) = some_index (reported_indexes globs path) h in
      same.1 (k, ⊎_elim {C = AreFound g.automata.extensions.slots are.tokens path k} (λ key. absurd (off (index_in (keys_found g.keys path) k key))) (λ found. found) ((are.same path k).1 (listed_in globs path k in_all))),
)

-- ---- every index

as_number : (b : Bool) → cond b 1 0 ≤ 1
as_number true = omega arith
as_number false = omega arith

split : (g : TokenGlob) (gs : List TokenGlob) (path : List ℕ) → listed_count (g ∷ gs) path ≡ cond (is_reported g path) 1 0 + listed_count gs path
split g gs path = sum_by-append (λ x. cond (is_reported x path) 1 0) (g ∷ []) gs ∙ omega arith

listed_few : (globs : List TokenGlob) (path : List ℕ) → listed_count globs path ≤ length globs
listed_few [] path = omega arith
listed_few (g ∷ gs) path = let rest = listed_few gs path in let one = as_number (is_reported g path) in omega (arith, rest, one, split g gs path)

all_by_count : (globs : List TokenGlob) (path : List ℕ) → length globs ≤ listed_count globs path → (i : ℕ) → i < length globs → is_reported_at globs path i ≡ true
all_by_count [] path full i lt = absurd (omega (arith, lt))
all_by_count (g ∷ gs) path full zero lt = by_case (is_reported g path) refl
  where
    by_case : (b : Bool) → is_reported g path ≡ b → is_reported g path ≡ true
    by_case true h = h
    by_case false h = let z : ◌≡◌ {A = ℕ} (cond (is_reported g path) 1 0) 0 = ap (λ x. cond x 1 0) h in let few = listed_few gs path in absurd (omega (arith, full, z, few, split g gs path))
all_by_count (g ∷ gs) path full (suc i) lt = let one = as_number (is_reported g path) in all_by_count gs path (omega (arith, full, one, split g gs path)) i (omega (arith, lt))

contains_any : (xs : List ℕ) (q : ℕ) → Contains xs q → list_any (λ x. q == x) xs ≡ true
contains_any [] q (i, lt, is) = absurd (omega (arith, lt))
contains_any (x ∷ xs) q (zero, lt, is) = ap (λ b. b || list_any (λ y. q == y) xs) (eq-eqb q x (sym is))
contains_any (x ∷ xs) q (suc i, lt, is) = or_right (q == x) (list_any (λ y. q == y) xs) (contains_any xs q (i, omega (arith, lt), is))
  where
    or_right : (a b : Bool) → b ≡ true → (a || b) ≡ true
    or_right true b h = refl
    or_right false b h = h

-- there are as many keys as globs just if every glob is reported
keys_full : (globs : List TokenGlob) (g : SetMatcherParts) (path : List ℕ) → IsSetMatcherOf globs g → AreIdle g.automata path
    → (length (keys_found g.keys path) ≡ length globs) ↔ ContainsAllBelow (reported_indexes globs path) (length globs)
keys_full globs g path are idle = (
  λ full. (all_pass (λ x. is_reported x path) globs (all_by_count globs path (let few = are.once path in omega (arith, full, few)))).0 refl,
  λ all. let many = le-length_from_below (keys_found g.keys path) (length globs) (λ q lt. contains_any (keys_found g.keys path) q ((keys_listed globs g path are idle q).1 (all q lt))) in
      let few = are.once path in let maximum = listed_few globs path in omega (arith, many, few, maximum),
)

pub all_by_keys : (globs : List TokenGlob) (g : SetMatcherParts) (path : List ℕ) (n : ℕ) (counted : Option ℕ) → IsSetMatcherOf globs g → AreIdle g.automata path → length globs ≡ n → n < 2 ^ 64
    → MatchOption counted (2 ^ 64 ≤ length (keys_found g.keys path)) (λ count. count ≡ length (keys_found g.keys path))
    → IsTrue (option_eq (λ a b. a == b) counted (Some n)) ↔ ContainsAllBelow (reported_indexes globs path) (length globs)
all_by_keys globs g path n None are idle count fits over =
    (λ h. absurd (cc), λ all. let few = are.once path in let maximum = listed_few globs path in absurd (omega (arith, few, maximum, over, count, fits)))
all_by_keys globs g path n (Some m) are idle count fits is = (
  λ h. let same = eqb-true m n h in (keys_full globs g path are idle).0 (omega (arith, same, is, count)),
  λ all. let full = (keys_full globs g path are idle).1 all in eq-eqb m n (omega (arith, full, is, count)),
)
