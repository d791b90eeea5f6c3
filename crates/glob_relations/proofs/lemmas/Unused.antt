-- Items at indexes, and which of them are needed.
use Rattle.std.proofs.Common.{◌≡◌, ◌≢◌, Bool, ℕ, zero, suc, ◌+◌, ◌-◌, ◌<◌, ◌≤◌, ◌⊎◌, true≢false, List, [], ◌∷◌, length, IsTrue, refl, ap, sym, subst, ◌∙◌, arith}
use Rattle.std.specs.Prelude.{IsFalse, Contains, Option, Some, None, slice_get, slice_index}
use Rattle.std.specs.List.{range_with_len}
use Rattle.std.proofs.lemmas.Bool.{cases_lt, or_cases}
use Rattle.std.proofs.Math.Logic.{⊎_elim}
use Rattle.byte_nfa.proofs.lemmas.Pass.{or_first, or_second}
use Rattle.glob_relations.specs.Answers.{some_match, IsCovered, IsMissed}
use Rattle.glob_relations.specs.Shortest.{IsShortest}
use Rattle.glob_relations.specs.Unused.{with_item, items_at, rivals, IsLeastCover, TellsReachability}
use Rattle.glob_relations.specs.declared.domain.Domain.{Domain}
use Rattle.glob_relations.specs.declared.unused.Decides.{Decides}
use Rattle.glob_relations.specs.declared.unused.Decides.TheVariants.{First, Last}
use Rattle.glob_relations.specs.declared.unused.Reachability.{Reachability}
use Rattle.bit_sets.proofs.lemmas.IndexSets.{in_one}
use Rattle.glob_relations.proofs.lemmas.Indexes.{each_contained, contains_none, rest_of, contains_rest, rest_contains, rest_before, range_below}
use Rattle.glob_relations.proofs.lemmas.Told.{is_false}

-- some item of the list at one of the indexes matches the path
abbrev pub MatchesAt : {A : Type 0} → (A → List ℕ → Bool) → List A → List ℕ → List ℕ → Type 0
MatchesAt {A} matches xs ks path = (k : ℕ) × Contains ks k × ((x : A) × (slice_get xs k ≡ Some x) × IsTrue (matches x path))

-- without the index, those of a set do not cover the item
abbrev pub IsNeeded : {A : Type 0} → (A → List ℕ → Bool) → List A → A → Domain → List ℕ → ℕ → Type 0
IsNeeded matches xs x domain set k = (rest : List ℕ) → ((j : ℕ) → Contains rest j → Contains set j × (j ≢ k)) → IsCovered matches x (items_at xs rest) domain → ⊥

-- what is known of a set while indexes are left out: the first ones of it are needed
pub record IsCoverTo {A : Type 0} (matches : A → List ℕ → Bool) (xs : List A) (x : A) (others : List ℕ) (domain : Domain) (set : List ℕ) (i : ℕ) : Type 0 where
  pub within : (k : ℕ) → Contains set k → Contains others k
  pub covers : IsCovered matches x (items_at xs set) domain
  pub needed : (j : ℕ) → j < i → IsNeeded matches xs x domain set (slice_index set j)

module _ {A : Type 0} (matches : A → List ℕ → Bool) where
  module _ (xs : List A) (path : List ℕ) where
    at_there : (ks : List ℕ) (o : Option A) (x : A) → o ≡ Some x → IsTrue (matches x path) → IsTrue (some_match matches (with_item o (items_at xs ks)) path)
    at_there ks None x is h = absurd cc
    at_there ks (Some y) x is h = let same : y ≡ x = cc in or_first (matches y path) (some_match matches (items_at xs ks) path) (subst (λ (z : A). IsTrue (matches z path)) (sym same) h)

    at_later : (ks : List ℕ) (o : Option A) → IsTrue (some_match matches (items_at xs ks) path) → IsTrue (some_match matches (with_item o (items_at xs ks)) path)
    at_later ks None h = h
    at_later ks (Some y) h = or_second (matches y path) (some_match matches (items_at xs ks) path) h

    pub some_at_there : (ks : List ℕ) (k : ℕ) (x : A) → Contains ks k → slice_get xs k ≡ Some x → IsTrue (matches x path) → IsTrue (some_match matches (items_at xs ks) path)
    some_at_there [] k x (i, lt, is) at h = absurd (omega arith)
    some_at_there (j ∷ ks) k x (zero, lt, is) at h = at_there ks (slice_get xs j) x (ap (slice_get xs) is ∙ at) h
    some_at_there (j ∷ ks) k x (suc i, lt, is) at h = at_later ks (slice_get xs j) (some_at_there ks k x (i, omega arith, is) at h)

    later : (k : ℕ) (ks : List ℕ) → MatchesAt matches xs ks path → MatchesAt matches xs (k ∷ ks) path
    later k ks (j, (i, lt, is), rest) = (j, (suc i, omega arith, is), rest)

    pub some_at_back : (ks : List ℕ) → IsTrue (some_match matches (items_at xs ks) path) → MatchesAt matches xs ks path
    some_at_back [] h = absurd (true≢false (sym h))
    some_at_back (k ∷ ks) h = by (λ other. later k ks (some_at_back ks other)) (slice_get xs k) refl h
      where
        by : (IsTrue (some_match matches (items_at xs ks) path) → MatchesAt matches xs (k ∷ ks) path) → (o : Option A) → slice_get xs k ≡ o → IsTrue (some_match matches (with_item o (items_at xs ks)) path)
            → MatchesAt matches xs (k ∷ ks) path
        by others None is h' = others h'
        by others (Some x) is h' = ⊎_elim {C = MatchesAt matches xs (k ∷ ks) path}
            (λ this. (k, (0, omega arith, refl), (x, is, this)))
            others
            (or_cases (matches x path) (some_match matches (items_at xs ks) path) h')

  -- what is covered stays covered by the items at more indexes
  pub covered_at : (xs : List A) (x : A) (domain : Domain) (few many : List ℕ) → ((k : ℕ) → Contains few k → Contains many k) → IsCovered matches x (items_at xs few) domain → IsCovered matches x (items_at xs many) domain
  covered_at xs x domain few many more covered path inside matched =
      let (k, at, (y, is, matches')) = some_at_back xs path few (covered path inside matched) in
      some_at_there xs path many k y (more k at) is matches'

  -- where a path is missed, the item is not covered
  pub missed_uncovered : (x : A) (by : List A) (domain : Domain) (path : List ℕ) → IsMissed matches x by domain path → IsCovered matches x by domain → ⊥
  missed_uncovered x by domain path (inside, matched, off) covered = true≢false (sym (covered path inside matched) ∙ off)

  -- a path that no item at an index matches
  pub none_match : (xs : List A) (path ks : List ℕ) → ((k : ℕ) → Contains ks k → (x : A) → slice_get xs k ≡ Some x → IsTrue (matches x path) → ⊥) → IsFalse (some_match matches (items_at xs ks) path)
  none_match xs path ks off = is_false (some_match matches (items_at xs ks) path)
      (λ h. let (k, at, (x, is, matches')) = some_at_back xs path ks h in off k at x is matches')

  -- a path that is missed by the items at some of the indexes, and by those at the rest, is missed by all; and it is as short
  pub shortest_missed : (xs : List A) (x : A) (domain : Domain) (by rest others path : List ℕ) → ((k : ℕ) → Contains by k → Contains others k) → ((k : ℕ) → Contains others k → Contains by k ⊎ Contains rest k)
      → IsShortest (IsMissed matches x (items_at xs by) domain) path → IsFalse (some_match matches (items_at xs rest) path) → IsShortest (IsMissed matches x (items_at xs others) domain) path
  shortest_missed xs x domain by rest others path within all ((inside, matched, off), least) none = (
    (
      inside,
      matched,
      none_match xs path others
          (λ k at y is matches'. ⊎_elim {C = ⊥}
          (λ early. true≢false (sym (some_at_there xs path by k y early is matches') ∙ off))
          (λ late. true≢false (sym (some_at_there xs path rest k y late is matches') ∙ none))
          (all k at)),
    ),
    λ other (inside', matched', off'). least other (
      inside',
      matched',
      none_match xs other by
          (λ k at y is matches'. true≢false (sym (some_at_there xs other others k y (within k at) is matches') ∙ off')),
    ),
  )

  -- no item is needed
  pub least_none : (xs : List A) (x : A) (others : List ℕ) (domain : Domain) → IsCovered matches x [] domain → IsLeastCover matches xs x (Contains others) domain []
  least_none xs x others domain covered = record {
    within = λ k at. absurd (contains_none k at);
    covers = covered;
    least = λ k at rest fewer still. contains_none k at;
    single = λ lt k at still. absurd (omega arith);
  }

  -- one item is needed
  pub least_one : (xs : List A) (x : A) (others : List ℕ) (domain : Domain) (k : ℕ) → Contains others k → (IsCovered matches x [] domain → ⊥) → IsCovered matches x (items_at xs (k ∷ [])) domain
      → IsLeastCover matches xs x (Contains others) domain (k ∷ [])
  least_one xs x others domain k at some covered = record {
    within = λ j is. subst (Contains others) (in_one k j is) at;
    covers = covered;
    least = λ j is rest fewer still. some (covered_at xs x domain rest [] (λ i in'. absurd ((fewer i in').1 (sym (in_one k i (fewer i in').0) ∙ in_one k j is))) still);
    single = λ lt j is still. absurd (omega arith);
  }

  pub cover_first : (xs : List A) (x : A) (others by : List ℕ) (domain : Domain) → ((k : ℕ) → Contains by k → Contains others k) → IsCovered matches x (items_at xs by) domain → IsCoverTo matches xs x others domain by 0
  cover_first xs x others by domain within covered = record {
    within = within;
    covers = covered;
    needed = λ j less. absurd (omega arith);
  }

  module _ (xs : List A) (x : A) (others : List ℕ) (domain : Domain) (set : List ℕ) (i : ℕ) where
    -- one can be left out
    pub cover_fewer : i < length set → IsCoverTo matches xs x others domain set i → IsCovered matches x (items_at xs (rest_of set i)) domain → IsCoverTo matches xs x others domain (rest_of set i) i
    cover_fewer lt is covered = record {
      within = λ k at. is.within k (contains_rest set i k at);
      covers = covered;
      needed = λ j less rest fewer still. is.needed j less rest
          (λ n at. (contains_rest set i n (fewer n at).0, λ same. (fewer n at).1 (same ∙ sym (rest_before set i j lt less)))) still;
    }

    -- one cannot
    pub cover_kept : i < length set → IsCoverTo matches xs x others domain set i → (IsCovered matches x (items_at xs (rest_of set i)) domain → ⊥) → IsCoverTo matches xs x others domain set (i + 1)
    cover_kept lt is uncovered = record {
      within = is.within;
      covers = is.covers;
      needed = λ j less. ⊎_elim {C = IsNeeded matches xs x domain set (slice_index set j)}
          (λ low. is.needed j low)
          (λ high. let same : i ≡ j = omega arith in subst (λ (n : ℕ). IsNeeded matches xs x domain set (slice_index set n)) same
          (λ rest fewer still. uncovered (covered_at xs x domain rest (rest_of set i) (λ n at. rest_contains set i n lt (fewer n at).0 (fewer n at).1) still)))
          (cases_lt j i);
    }

    -- all that are left are needed
    pub cover_least : length set ≤ i → IsCoverTo matches xs x others domain set i → ((k : ℕ) → Contains others k → IsCovered matches x (items_at xs (k ∷ [])) domain → ⊥) → IsLeastCover matches xs x (Contains others) domain set
    cover_least all is none = record {
      within = is.within;
      covers = is.covers;
      least = each_contained (IsNeeded matches xs x domain set) set i all is.needed;
      single = λ lt. none;
    }

  -- what is told of the same item and the same rivals
  pub told_same : (xs : List A) (x y : A) (few many : List ℕ) (domain : Domain) (limit : ℕ) → y ≡ x → few ≡ many → (told : Reachability) → TellsReachability matches xs y few domain limit told
      → TellsReachability matches xs x many domain limit told
  told_same xs x y few many domain limit items lists told is =
      subst (λ (z : A). TellsReachability matches xs z many domain limit told) items (subst (λ (ks : List ℕ). TellsReachability matches xs y ks domain limit told) lists is)

pub rivals_below : (decides : Decides) (i count k : ℕ) → i < count → Contains (rivals decides i count) k → k < count
rivals_below First i count k lt at = let low = range_below 0 i k at in omega arith
rivals_below Last i count k lt at = let low = range_below (i + 1) (count - (i + 1)) k at in omega arith

module _ {A : Type 0} where
  items_shift : (x : A) (xs : List A) (a n : ℕ) → items_at (x ∷ xs) (range_with_len (suc a) n) ≡ items_at xs (range_with_len a n)
  items_shift x xs a zero = refl
  items_shift x xs a (suc n) =
      let next : suc a + 1 ≡ suc (a + 1) = omega arith in
      ap (λ (b : ℕ). with_item (slice_get xs a) (items_at (x ∷ xs) (range_with_len b n))) next ∙ ap (with_item (slice_get xs a)) (items_shift x xs (a + 1) n)

  -- the items of a list at all of its indexes
  pub items_all : (xs : List A) → items_at xs (range_with_len 0 (length xs)) ≡ xs
  items_all [] = refl
  items_all (x ∷ xs) = ap (λ (ys : List A). x ∷ ys) (items_shift x xs 0 (length xs) ∙ items_all xs)
