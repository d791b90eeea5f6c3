-- Rivals of rules of ignore files, and what they leave to a rule.
use Rattle.std.proofs.Common.{◌≡◌, Bool, true, false, ℕ, zero, suc, ◌+◌, ◌<◌, true≢false, List, [], ◌∷◌, ◌++◌, length, IsTrue, refl, ap, sym, subst, ◌∙◌, arith}
use Rattle.std.specs.Prelude.{◌↔◌, ◌||◌, not, IsFalse, Contains, Some, slice_get}
use Rattle.std.proofs.lemmas.Bool.{cases_lt}
use Rattle.std.proofs.lemmas.List.Elements.{Contains-append_left, Contains-append_right, Contains-append_cases}
use Rattle.std.proofs.Math.Logic.{⊎_elim}
use Rattle.ignore_pattern.specs.Patterns.{Pattern, pattern_matches}
use Rattle.bit_sets.proofs.lemmas.Booleans.{and_both, and_first, and_second}
use Rattle.glob_relations.specs.Answers.{some_match, IsMissed}
use Rattle.glob_relations.specs.declared.domain.Domain.{Domain}
use Rattle.glob_relations.specs.Shortest.{IsShortest}
use Rattle.glob_relations.specs.Rules.{IsDecidedAlone, IsRival, NeverDecides}
use Rattle.glob_relations.specs.Unused.{items_at, IsLeastCover}
use Rattle.bit_sets.proofs.lemmas.IndexSets.{in_one}
use Rattle.glob_relations.proofs.lemmas.Told.{is_false, shortest_same}
use Rattle.glob_relations.proofs.lemmas.Unused.{covered_at, missed_uncovered, some_at_back, some_at_there}

-- where a rule applies, one applies that is for the same kinds of paths or for more
kinds : (is_folder mine other : Bool) → IsTrue (is_folder || not mine) → IsTrue (mine || not other) → IsTrue (is_folder || not other)
kinds true mine other here wider = refl
kinds false true other here wider = absurd (true≢false (sym here))
kinds false false other here wider = wider

-- a rule applies to paths of its own kind
own_kind : (mine : Bool) → IsTrue (mine || not mine)
own_kind true = refl
own_kind false = refl

module _ (ignore_case : Bool) (ps : List Pattern) (i : ℕ) (p : Pattern) (domain : Domain) (others : List ℕ) (all : (k : ℕ) → Contains others k ↔ IsRival ps i p k) where
  -- the rule decides about the paths that its rivals miss
  pub missed_decided : (path : List ℕ) → IsMissed (pattern_matches ignore_case) p (items_at ps others) domain path ↔ IsDecidedAlone ignore_case ps i p domain path
  missed_decided path = (
    λ (inside, matched, off). (
      inside,
      (
        p.folders_only,
        (
          and_both (p.folders_only || not p.folders_only) (pattern_matches ignore_case p path) (own_kind p.folders_only) matched,
          λ k q later at applied.
              let wider = and_first (p.folders_only || not q.folders_only) (pattern_matches ignore_case q path) applied in
              let matches = and_second (p.folders_only || not q.folders_only) (pattern_matches ignore_case q path) applied in
              true≢false (sym (some_at_there (pattern_matches ignore_case) ps path others k q ((all k).1 (later, (q, at, wider))) at matches) ∙ off),
        ),
      ),
    ),
    λ (inside, (is_folder, (applied, none))). (
      inside,
      and_second (is_folder || not p.folders_only) (pattern_matches ignore_case p path) applied,
      is_false (some_match (pattern_matches ignore_case) (items_at ps others) path)
          (λ some. let (k, at, (q, is, matches)) = some_at_back (pattern_matches ignore_case) ps path others some in
          let (later, (r, is', wider)) = (all k).0 at in
          let same : r ≡ q = cc in
          let here = and_first (is_folder || not p.folders_only) (pattern_matches ignore_case p path) applied in
          none k q later is
          (and_both (is_folder || not q.folders_only) (pattern_matches ignore_case q path)
          (kinds is_folder p.folders_only q.folders_only here (subst (λ (x : Pattern). IsTrue (p.folders_only || not x.folders_only)) same wider)) matches)),
    ),
  )

  -- a shortest path that the rivals miss
  pub shortest_decided : (path : List ℕ) → IsShortest (IsMissed (pattern_matches ignore_case) p (items_at ps others) domain) path → IsShortest (IsDecidedAlone ignore_case ps i p domain) path
  shortest_decided path is = shortest_same (IsMissed (pattern_matches ignore_case) p (items_at ps others) domain) (IsDecidedAlone ignore_case ps i p domain) path missed_decided is

  -- a least cover by rivals
  pub never_decides : (set : List ℕ) → IsLeastCover (pattern_matches ignore_case) ps p (Contains others) domain set → NeverDecides ignore_case ps i p domain set
  never_decides set is = (
    λ path decided. missed_uncovered (pattern_matches ignore_case) p (items_at ps others) domain path ((missed_decided path).1 decided) (covered_at (pattern_matches ignore_case) ps p domain set others is.within is.covers),
    record {
      within = λ k at. (all k).0 (is.within k at);
      covers = is.covers;
      least = is.least;
      single = λ lt k rival. is.single lt k ((all k).1 rival);
    },
  )

-- a rival is a rule of the list
pub rival_below : (ps : List Pattern) (i k : ℕ) (p : Pattern) → IsRival ps i p k → k < length ps
rival_below ps i k p (later, (q, at, wider)) = get_below ps k q at
  where
    get_below : (qs : List Pattern) (n : ℕ) (r : Pattern) → slice_get qs n ≡ Some r → n < length qs
    get_below [] n r at = absurd cc
    get_below (x ∷ qs) zero r at = omega arith
    get_below (x ∷ qs) (suc n) r at = let less = get_below qs n r at in omega arith

-- the rivals below a number
abbrev pub AreRivals : List Pattern → ℕ → Pattern → ℕ → List ℕ → Type 0
AreRivals ps i p n others = (j : ℕ) → Contains others j ↔ (IsRival ps i p j × (j < n))

module _ (ps : List Pattern) (i : ℕ) (p : Pattern) (n : ℕ) (q : Pattern) (others : List ℕ) where
  -- one more rule is a rival
  pub rivals_more : (new : List ℕ) → i < n → slice_get ps n ≡ Some q → IsTrue (p.folders_only || not q.folders_only) → new ≡ others ++ n ∷ [] → AreRivals ps i p n others → AreRivals ps i p (n + 1) new
  rivals_more new late at wider is all j = (
    λ there. ⊎_elim {C = IsRival ps i p j × (j < n + 1)}
        (λ old. let (rival, low) = (all j).0 old in (rival, omega arith))
        (λ one. let same : n ≡ j = in_one n j one in (subst (IsRival ps i p) same (late, (q, at, wider)), omega arith))
        (Contains-append_cases others (n ∷ []) j (subst (λ (xs : List ℕ). Contains xs j) is there)),
    λ (rival, low). subst (λ (xs : List ℕ). Contains xs j) (sym is)
        (⊎_elim {C = Contains (others ++ n ∷ []) j}
        (λ less. Contains-append_left others (n ∷ []) j ((all j).1 (rival, less)))
        (λ not_less. let same : n ≡ j = omega arith in Contains-append_right others (n ∷ []) j (0, omega arith, same))
        (cases_lt j n)),
  )

  -- one more rule is no rival
  pub rivals_same : slice_get ps n ≡ Some q → IsFalse (p.folders_only || not q.folders_only) → AreRivals ps i p n others → AreRivals ps i p (n + 1) others
  rivals_same at narrower all j = (
    λ there. let (rival, low) = (all j).0 there in (rival, omega arith),
    λ (rival, low). ⊎_elim {C = Contains others j}
        (λ less. (all j).1 (rival, less))
        (λ not_less.
        let same : j ≡ n = omega arith in
        let (late, (r, at', wider)) = rival in
        let is : r ≡ q = let here = sym at' ∙ ap (slice_get ps) same ∙ at in cc in
        absurd (true≢false (sym (subst (λ (x : Pattern). IsTrue (p.folders_only || not x.folders_only)) is wider) ∙ narrower)))
        (cases_lt j n),
  )
