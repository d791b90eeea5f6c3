-- What an automaton of items reaches.
use Rattle.std.proofs.Common.{◌≡◌, ℕ, zero, suc, ◌<◌, inl, inr, Bool, true≢false, List, [], ◌∷◌, ◌++◌, IsTrue, refl, ap, sym, ◌∙◌, subst, arith}
use Rattle.std.specs.Prelude.{◌↔◌, map}
use Rattle.std.proofs.lemmas.Bool.{or_cases}
use Rattle.std.proofs.Math.Logic.{⊎_elim}
use Rattle.bit_sets.specs.Texts.{AllBytes}
use Rattle.byte_nfa.specs.Steps.{NfaValue, IsReached}
use Rattle.byte_nfa.proofs.lemmas.Pass.{or_first, or_second}
use Rattle.glob_strategy.specs.IndexedTokens as tokens
use Rattle.glob_syntax.specs.declared.options.Options.{Options}
use Rattle.glob_syntax.specs.Token.{Tokens}
use Rattle.glob_text.specs.GlobMatches.{GlobValue, tokens_of_glob, glob_matches}
use Rattle.ignore_pattern.specs.Patterns.{Pattern, pattern_matches}
use Rattle.ignore_pattern.specs.Compared as patterns
use Rattle.glob_relations.specs.Answers.{some_match, IsMissed, IsShared, TellsCovering, TellsOverlap}
use Rattle.glob_relations.specs.declared.domain.Domain.{Domain}
use Rattle.glob_relations.specs.inner.Automata.{SomeMatches, IsFor, under}
use Rattle.glob_relations.specs.inner.Rows.{IsWantedText, TellsSearch}
use Rattle.glob_relations.specs.declared.relations.Coverage.{Coverage}
use Rattle.glob_relations.specs.declared.relations.Coverage.TheVariants.{Covered, Not, Unknown}
use Rattle.glob_relations.specs.declared.relations.Intersection.{Intersection}
use Rattle.glob_relations.specs.declared.relations.Intersection.TheVariants.{Disjoint, Both, Unknown as Undecided}
use Rattle.glob_relations.specs.declared.search.SearchAnswer.{SearchAnswer}
use Rattle.glob_relations.specs.declared.search.SearchAnswer.TheVariants.{Found, Nothing, Limit}
use Rattle.glob_relations.proofs.lemmas.Domains.{is_in}
use Rattle.glob_relations.proofs.lemmas.Told.{is_false, is_true, shortest_same}

-- ---- globs and patterns as items

-- a glob as the tokens that are added to an automaton
abbrev pub tokens_of_item : GlobValue × ℕ → tokens.IndexedTokens
tokens_of_item x = tokens.indexed x.0.options (tokens_of_glob x.0) x.1

abbrev pub pattern_of_item : Pattern × ℕ → patterns.IndexedPattern
pattern_of_item x = patterns.indexed x.1 x.0

-- a glob that is added by its tokens and options
pub same_item : (g : GlobValue) (o : Options) (ts : Tokens) (j : ℕ) → o ≡ g.options → tokens_of_glob g ≡ ts → tokens.indexed o ts j ≡ tokens_of_item (g, j)
same_item g o ts j options same = ap (λ p. tokens.indexed p ts j) options ∙ ap (λ us. tokens.indexed g.options us j) (sym same)

globs_match : (xs : List (GlobValue × ℕ)) (path : List ℕ) (k : ℕ) → tokens.SomeMatches (map tokens_of_item xs) path k ↔ SomeMatches glob_matches xs path k
unfolding glob_matches
globs_match [] path k = (λ h. h, λ h. h)
globs_match (x ∷ xs) path k = let rest = globs_match xs path k in (
  ⊎_elim {C = SomeMatches glob_matches (x ∷ xs) path k} (λ this. inl this) (λ other. inr (rest.0 other)),
  ⊎_elim {C = tokens.SomeMatches (map tokens_of_item (x ∷ xs)) path k} (λ this. inl this) (λ other. inr (rest.1 other)),
)

patterns_match : (ignore_case : Bool) (xs : List (Pattern × ℕ)) (path : List ℕ) (k : ℕ) → patterns.SomeMatchFor ignore_case (map pattern_of_item xs) path k ↔ SomeMatches (pattern_matches ignore_case) xs path k
patterns_match ignore_case [] path k = (λ h. h, λ h. h)
patterns_match ignore_case (x ∷ xs) path k = let rest = patterns_match ignore_case xs path k in (
  ⊎_elim {C = SomeMatches (pattern_matches ignore_case) (x ∷ xs) path k} (λ this. inl this) (λ other. inr (rest.0 other)),
  ⊎_elim {C = patterns.SomeMatchFor ignore_case (map pattern_of_item (x ∷ xs)) path k} (λ this. inl this) (λ other. inr (rest.1 other)),
)

pub globs_for : (xs : List (GlobValue × ℕ)) (m : NfaValue) → tokens.IsFor m (map tokens_of_item xs) ↔ IsFor glob_matches xs m
globs_for xs m = (
  λ is a agrees path k bytes. let (there, back) = is a agrees path k bytes in (λ h. (globs_match xs path k).0 (there h), λ h. back ((globs_match xs path k).1 h)),
  λ is a agrees path k bytes. let (there, back) = is a agrees path k bytes in (λ h. (globs_match xs path k).1 (there h), λ h. back ((globs_match xs path k).0 h)),
)

pub patterns_for : (ignore_case : Bool) (xs : List (Pattern × ℕ)) (m : NfaValue) → patterns.Compares ignore_case (map pattern_of_item xs) m ↔ IsFor (pattern_matches ignore_case) xs m
patterns_for ignore_case xs m = (
  λ is a agrees path k bytes. let (there, back) = is a agrees path k bytes in (λ h. (patterns_match ignore_case xs path k).0 (there h), λ h. back ((patterns_match ignore_case xs path k).1 h)),
  λ is a agrees path k bytes. let (there, back) = is a agrees path k bytes in (λ h. (patterns_match ignore_case xs path k).1 (there h), λ h. back ((patterns_match ignore_case xs path k).0 h)),
)

pub map_last : {X Y : Type 0} (f : X → Y) (xs : List X) (x : X) → map f (xs ++ x ∷ []) ≡ map f xs ++ f x ∷ []
map_last f [] x = refl
map_last f (y ∷ xs) x = ap (λ ys. f y ∷ ys) (map_last f xs x)

-- ---- items

module _ {A : Type 0} (matches : A → List ℕ → Bool) (path : List ℕ) where
  pub some_there : (j : ℕ) (xs : List A) → IsTrue (some_match matches xs path) → SomeMatches matches (under j xs) path j
  some_there j [] h = absurd (true≢false (sym h))
  some_there j (x ∷ xs) h = ⊎_elim {C = SomeMatches matches (under j (x ∷ xs)) path j}
      (λ this. inl (refl, this))
      (λ other. inr (some_there j xs other))
      (or_cases (matches x path) (some_match matches xs path) h)

  pub some_back : (j : ℕ) (xs : List A) (k : ℕ) → SomeMatches matches (under j xs) path k → (j ≡ k) × IsTrue (some_match matches xs path)
  some_back j [] k h = absurd h
  some_back j (x ∷ xs) k h = ⊎_elim {C = (j ≡ k) × IsTrue (some_match matches (x ∷ xs) path)}
      (λ (is, this). (is, or_first (matches x path) (some_match matches xs path) this))
      (λ other. let (is, some) = some_back j xs k other in (is, or_second (matches x path) (some_match matches xs path) some))
      h

-- what the search wants of an automaton where the item has the index 0, and each of the others has the index 1
module _ {A : Type 0} (matches : A → List ℕ → Bool) (m : NfaValue) (x : A) (by : List A) (domain : Domain) (path : List ℕ) (mine : AllBytes path → IsReached m path 0 ↔ IsTrue (matches x path))
    (others : AllBytes path → IsReached m path 1 ↔ IsTrue (some_match matches by path)) where
  -- the paths that the search wants are those that are missed
  pub wanted_missed : IsWantedText m 1 domain path ↔ IsMissed matches x by domain path
  wanted_missed = (
    λ (bytes, (ends, (all, none))). (
      (is_in domain path).1 (bytes, ends),
      (mine bytes).0 (all 0 (omega arith)),
      is_false (some_match matches by path) (λ h. none ((others bytes).1 h)),
    ),
    λ (inside, matched, off).
        let (bytes, ends) = (is_in domain path).0 inside in (
          bytes,
          (
            ends,
            (
              λ k lt. let zero_is : 0 ≡ k = omega arith in subst (IsReached m path) zero_is ((mine bytes).1 matched),
              λ reach. true≢false (sym ((others bytes).0 reach) ∙ off),
            ),
          ),
        ),
  )

-- what an answer of the search tells of an item and those that may cover it
abbrev pub coverage_of : SearchAnswer → Coverage
coverage_of (Found path) = Not path
coverage_of Nothing = Covered
coverage_of Limit = Unknown

module _ {A : Type 0} (matches : A → List ℕ → Bool) (m : NfaValue) (x : A) (by : List A) (domain : Domain) (is : IsFor matches ((x, 0) ∷ under 1 by) m) where
  missed : (path : List ℕ) → IsWantedText m 1 domain path ↔ IsMissed matches x by domain path
  missed path = wanted_missed matches m x by domain path
      (λ bytes. (
        λ reach. ⊎_elim {C = IsTrue (matches x path)} (λ (same, h). h) (λ other. let (e, h) = some_back matches path 1 by 0 other in absurd (omega arith)) ((reaches 0 bytes).0 reach),
        λ h. (reaches 0 bytes).1 (inl (refl, h)),
      ))
      (λ bytes. (
        λ reach. ⊎_elim {C = IsTrue (some_match matches by path)} (λ (e, h). absurd (omega arith)) (λ other. (some_back matches path 1 by 1 other).1) ((reaches 1 bytes).0 reach),
        λ h. (reaches 1 bytes).1 (inr (some_there matches path 1 by h)),
      ))
    where
      reaches : (k : ℕ) → AllBytes path → IsReached m path k ↔ SomeMatches matches ((x, 0) ∷ under 1 by) path k
      reaches k bytes = is m.states (λ s low high. refl) path k bytes

  pub told_covering : (limit : ℕ) (answer : SearchAnswer) → TellsSearch m 1 domain limit answer → TellsCovering matches x by domain limit (coverage_of answer)
  told_covering limit (Found path) found = shortest_same (IsWantedText m 1 domain) (IsMissed matches x by domain) path.items missed found
  told_covering limit Nothing none = λ path inside matched. is_true (some_match matches by path) (λ off. none path ((missed path).1 (inside, matched, off)))
  told_covering limit Limit more = (m, is, more)

-- ---- two globs

abbrev pub intersection_of : SearchAnswer → Intersection
intersection_of (Found path) = Both path
intersection_of Nothing = Disjoint
intersection_of Limit = Undecided

module _ (m : NfaValue) (a b : GlobValue) (domain : Domain) (is : IsFor glob_matches ((a, 0) ∷ (b, 1) ∷ []) m) where
  -- the paths that the search wants are those that both match
  wanted_shared : (path : List ℕ) → IsWantedText m 2 domain path ↔ IsShared a b domain path
  wanted_shared path = (
    λ (bytes, (ends, (all, none))). (
      (is_in domain path).1 (bytes, ends),
      ways (IsTrue (glob_matches a path)) 0 ((reaches 0 bytes).0 (all 0 (omega arith))) (λ e h. h) (λ e h. absurd (omega arith)),
      ways (IsTrue (glob_matches b path)) 1 ((reaches 1 bytes).0 (all 1 (omega arith))) (λ e h. absurd (omega arith)) (λ e h. h),
    ),
    λ (inside, first, second).
        let (bytes, ends) = (is_in domain path).0 inside in
        let zero_reached : IsReached m path 0 = (reaches 0 bytes).1 (inl (refl, first)) in
        let one_reached : IsReached m path 1 = (reaches 1 bytes).1 (inr (inl (refl, second))) in
        (bytes, (ends, (both zero_reached one_reached, λ reach. ways ⊥ 2 ((reaches 2 bytes).0 reach) (λ e h. absurd (omega arith)) (λ e h. absurd (omega arith))))),
  )
    where
      reaches : (k : ℕ) → AllBytes path → IsReached m path k ↔ SomeMatches glob_matches ((a, 0) ∷ (b, 1) ∷ []) path k
      reaches k bytes = is m.states (λ s low high. refl) path k bytes

      ways : (C : Type 0) (k : ℕ) → SomeMatches glob_matches ((a, 0) ∷ (b, 1) ∷ []) path k → (0 ≡ k → IsTrue (glob_matches a path) → C) → (1 ≡ k → IsTrue (glob_matches b path) → C) → C
      ways C k h first second = ⊎_elim {C = C} (λ (e, y). first e y) (λ other. ⊎_elim {C = C} (λ (e, y). second e y) (λ none. absurd none) other) h

      both : IsReached m path 0 → IsReached m path 1 → (k : ℕ) → k < 2 → IsReached m path k
      both first second zero lt = first
      both first second (suc zero) lt = second
      both first second (suc (suc k)) lt = absurd (omega arith)

  pub told_overlap : (limit : ℕ) (answer : SearchAnswer) → TellsSearch m 2 domain limit answer → TellsOverlap a b domain limit (intersection_of answer)
  told_overlap limit (Found path) found = shortest_same (IsWantedText m 2 domain) (IsShared a b domain) path.items wanted_shared found
  told_overlap limit Nothing none = λ path inside first second. none path ((wanted_shared path).1 (inside, first, second))
  told_overlap limit Limit more = (m, is, more)
