-- Laws of globs that cover a glob, and of globs that are disjoint.
use Rattle.std.proofs.Common.{◌≡◌, ℕ, zero, suc, ◌<◌, ◌⊎◌, inl, inr, Bool, true, false, cond, true≢false, List, [], ◌∷◌, ◌++◌, length, IsTrue, refl, ap, sym, subst, ◌∙◌, arith}
use Rattle.std.specs.Prelude.{◌&&◌, not, Contains, IsFalse, Option, Some, None, slice_get}
use Rattle.std.specs.Option.{option_map_or}
use Rattle.std.proofs.lemmas.Bool.{or_cases}
use Rattle.std.proofs.lemmas.List.Elements.{Contains-append_left, Contains-append_right, Contains-append_cases}
use Rattle.std.proofs.lemmas.Option.{slice_get_read}
use Rattle.std.proofs.Math.Logic.{⊎_elim}
use Rattle.byte_nfa.proofs.lemmas.Pass.{and_both, and_second, or_first, or_second}
use Rattle.glob_text.specs.GlobMatches.{GlobValue, glob_matches}
use Rattle.set_matcher.specs.Answer.{matching_indexes}
use Rattle.set_matcher.specs.Excluded.{excluded, is_reported}
use Rattle.set_matcher.specs.Indexes.{passes_at}
use Rattle.set_matcher.proofs.lemmas.Indexes.{passing_is_contained, contained_passes}
use Rattle.glob_relations.specs.Answers.{some_match}
use Rattle.glob_relations.specs.Laws.{CoversItself, CoversWithMore, DisjointShareNone, CoveredIsNotNeeded, included}

-- some glob of the list matches the path
abbrev Matches : List GlobValue → List ℕ → Type 0
Matches gs path = (h : GlobValue) × Contains gs h × IsTrue (glob_matches h path)

later : {X : Type 0} (y : X) (xs : List X) (x : X) → Contains xs x → Contains (y ∷ xs) x
later y xs x (i, lt, is) = (suc i, omega arith, is)

match_there : (gs : List GlobValue) (path : List ℕ) (h : GlobValue) → Contains gs h → IsTrue (glob_matches h path) → IsTrue (some_match glob_matches gs path)
match_there [] path h (i, lt, is) m = absurd (omega arith)
match_there (g ∷ gs) path h (zero, lt, is) m = or_first (glob_matches g path) (some_match glob_matches gs path) (subst (λ (x : GlobValue). IsTrue (glob_matches x path)) (sym is) m)
match_there (g ∷ gs) path h (suc i, lt, is) m = or_second (glob_matches g path) (some_match glob_matches gs path) (match_there gs path h (i, omega arith, is) m)

match_back : (gs : List GlobValue) (path : List ℕ) → IsTrue (some_match glob_matches gs path) → Matches gs path
match_back [] path h = absurd (true≢false (sym h))
match_back (g ∷ gs) path h = ⊎_elim {C = Matches (g ∷ gs) path}
    (λ this. (g, (0, omega arith, refl), this))
    (λ other. let (x, at, m) = match_back gs path other in (x, later g gs x at, m))
    (or_cases (glob_matches g path) (some_match glob_matches gs path) h)

pub covers_itself : CoversItself
covers_itself g domain path inside matched = or_first (glob_matches g path) false matched

pub covers_with_more : CoversWithMore
covers_with_more g few many domain more covered path inside matched =
    let (h, at, m) = match_back few path (covered path inside matched) in
    match_there many path h (more h at) m

pub disjoint_share_none : DisjointShareNone
disjoint_share_none a b domain disjoint path inside = by (glob_matches a path) (glob_matches b path) (disjoint path inside)
  where
    by : (x y : Bool) → (IsTrue x → IsTrue y → ⊥) → IsFalse (x && y)
    by true true none = absurd (none refl refl)
    by true false none = refl
    by false y none = refl

-- ---- a set without a glob

-- some glob of the list is reported
abbrev Reports : List GlobValue → List ℕ → Type 0
Reports gs path = (h : GlobValue) × Contains gs h × IsTrue (is_reported h path)

no_number : (xs : List ℕ) → ((i : ℕ) → Contains xs i → ⊥) → xs ≡ []
no_number [] none = refl
no_number (x ∷ xs) none = absurd (none x (0, omega arith, refl))

reports_some : (gs : List GlobValue) (path : List ℕ) → Reports gs path → matching_indexes gs path ≡ [] → ⊥
unfolding matching_indexes
reports_some gs path (h, (k, lt, is), reported) none =
    let has : slice_get gs k ≡ Some h = slice_get_read gs (length gs) k h refl lt (sym is) in
    let passes : passes_at (λ g. is_reported g path) gs k ≡ true = ap (λ (o : Option GlobValue). option_map_or (λ g. is_reported g path) o false) has ∙ reported in
    let (i, small, same) = subst (λ (xs : List ℕ). Contains xs k) none (passing_is_contained (λ g. is_reported g path) gs k lt passes) in
    absurd (omega arith)

reports_none : (gs : List GlobValue) (path : List ℕ) → (Reports gs path → ⊥) → matching_indexes gs path ≡ []
unfolding matching_indexes
reports_none gs path none = no_number (matching_indexes gs path) (λ k at. let (lt, passes) = contained_passes (λ g. is_reported g path) gs k at in found k lt (slice_get gs k) refl passes)
  where
    found : (k : ℕ) → k < length gs → (o : Option GlobValue) → slice_get gs k ≡ o → option_map_or (λ g. is_reported g path) o false ≡ true → ⊥
    found k lt None is passes = true≢false (sym passes)
    found k lt (Some h) is passes = none (h, held gs k h is, passes)
      where
        held : (xs : List GlobValue) (n : ℕ) (x : GlobValue) → slice_get xs n ≡ Some x → Contains xs x
        held [] n x at = absurd cc
        held (y ∷ xs) zero x at = let same : y ≡ x = cc in (0, omega arith, same)
        held (y ∷ xs) (suc n) x at = later y xs x (held xs n x at)

-- a glob that is not excluded and matches is reported
included_reports : (gs : List GlobValue) (path : List ℕ) → IsTrue (some_match glob_matches (included gs) path) → Reports gs path
included_reports [] path h = absurd (true≢false (sym h))
included_reports (g ∷ gs) path h = by (λ other. let (x, at, m) = included_reports gs path other in (x, later g gs x at, m)) (not (excluded g)) refl h
  where
    by : (IsTrue (some_match glob_matches (included gs) path) → Reports (g ∷ gs) path) → (b : Bool) → not (excluded g) ≡ b → IsTrue (some_match glob_matches (cond b (g ∷ included gs) (included gs)) path) → Reports (g ∷ gs) path
    by others true is h' = ⊎_elim {C = Reports (g ∷ gs) path}
        (λ this. (g, (0, omega arith, refl), and_both (not (excluded g)) (glob_matches g path) is this))
        others
        (or_cases (glob_matches g path) (some_match glob_matches (included gs) path) h')
    by others false is h' = others h'

pub covered_is_not_needed : CoveredIsNotNeeded
covered_is_not_needed before after g domain covered path inside = (
  λ none. reports_none (before ++ after) path (λ (h, at, reported). reports_some (before ++ g ∷ after) path (h, more h at, reported) none),
  λ none. reports_none (before ++ g ∷ after) path (λ (h, at, reported). reports_some (before ++ after) path (fewer h at reported) none),
)
  where
    more : (h : GlobValue) → Contains (before ++ after) h → Contains (before ++ g ∷ after) h
    more h at = ⊎_elim {C = Contains (before ++ g ∷ after) h}
        (λ left. Contains-append_left before (g ∷ after) h left)
        (λ right. Contains-append_right before (g ∷ after) h (later g after h right))
        (Contains-append_cases before after h at)

    first_or : (h : GlobValue) → Contains (g ∷ after) h → (g ≡ h) ⊎ Contains after h
    first_or h (zero, lt, is) = inl is
    first_or h (suc i, lt, is) = inr (i, omega arith, is)

    -- a glob that is reported is one of the others, or there is another one
    fewer : (h : GlobValue) → Contains (before ++ g ∷ after) h → IsTrue (is_reported h path) → Reports (before ++ after) path
    fewer h at reported = ⊎_elim {C = Reports (before ++ after) path}
        (λ left. (h, Contains-append_left before after h left, reported))
        (λ right. ⊎_elim {C = Reports (before ++ after) path}
        (λ same. included_reports (before ++ after) path (covered path inside (subst (λ (x : GlobValue). IsTrue (glob_matches x path)) (sym same) (and_second (not (excluded h)) (glob_matches h path) reported))))
        (λ there. (h, Contains-append_right before after h there, reported))
        (first_or h right))
        (Contains-append_cases before (g ∷ after) h at)
