-- Lists of globs with one more glob, and lists that include each other.
use Rattle.std.proofs.Common.{arith, ◌≡◌, ℕ, List, [], ◌∷◌, ◌++◌, Bool, true, false, ◌||◌, ap, sym, ◌∙◌, refl}
use Rattle.std.proofs.Math.Bool.{or-false}
use Rattle.std.proofs.Math.Logic.{⊎_elim}
use Rattle.std.proofs.lemmas.Bool.{or_cases, or_right}
use Rattle.std.proofs.lemmas.List.Elements.{Contains-append_left, Contains-append_right}
use Rattle.std.proofs.lemmas.List.Folds.{list_any-append}
use Rattle.std.specs.List.{list_any}
use Rattle.globset.specs.GlobMatches.{GlobValue, glob_matches}
use Rattle.glob_relations.specs.Answers.{TellsCovering, some_match}
use Rattle.glob_relations.specs.declared.domain.Domain.{Domain}
use Rattle.glob_relations.specs.declared.relations.Coverage.{Coverage}
use Rattle.glob_relations.specs.declared.relations.Coverage.TheVariants.{Covered, Not, Unknown as Undecided}
use Rattle.glob_answers.specs.Comparison.{AreEqual, IsIncluded, TellsEach, TellsInclusion, inclusion_after}
use Rattle.glob_answers.specs.declared.comparison.Inclusion.{Inclusion}
use Rattle.glob_answers.specs.declared.comparison.Inclusion.TheVariants.{Whole, Partial, Unknown as Open}

-- some glob of a list with one more matches the path where one of the list does, or the last
some_same : (gs : List GlobValue) (g : GlobValue) (path : List ℕ) → some_match glob_matches (gs ++ g ∷ []) path ≡ (some_match glob_matches gs path || glob_matches g path)
some_same gs g path =
    let f : GlobValue → Bool = λ x. glob_matches x path in
    list_any-append f gs (g ∷ []) ∙ ap (λ b. list_any f gs || b) (or-false (glob_matches g path))

-- a glob of the list is one of the list with one more
some_before : (gs : List GlobValue) (g : GlobValue) (path : List ℕ) → some_match glob_matches gs path ≡ true → some_match glob_matches (gs ++ g ∷ []) path ≡ true
some_before gs g path e = some_same gs g path ∙ ap (λ b. b || glob_matches g path) e

-- so is the last
some_last : (gs : List GlobValue) (g : GlobValue) (path : List ℕ) → glob_matches g path ≡ true → some_match glob_matches (gs ++ g ∷ []) path ≡ true
some_last gs g path e = some_same gs g path ∙ or_right (some_match glob_matches gs path) (glob_matches g path) e

-- answers about each glob, and about one more
pub each_more : (gs : List GlobValue) (g : GlobValue) (by : List GlobValue) (domain : Domain) (limit : ℕ) (each : List Coverage) (told : Coverage) → TellsEach gs by domain limit each → TellsCovering glob_matches g by domain limit told →
    TellsEach (gs ++ g ∷ []) by domain limit (each ++ told ∷ [])
each_more [] g by domain limit [] told p q = (q, tt)
each_more [] g by domain limit (t ∷ ts) told p q = absurd p
each_more (x ∷ xs) g by domain limit [] told p q = absurd p
each_more (x ∷ xs) g by domain limit (t ∷ ts) told p q = (p.0, each_more xs g by domain limit ts told p.1 q)

-- a list that is included, and one more glob that is covered
whole_more : (gs : List GlobValue) (g : GlobValue) (by : List GlobValue) (domain : Domain) (limit : ℕ) → IsIncluded gs by domain → TellsCovering glob_matches g by domain limit Covered → IsIncluded (gs ++ g ∷ []) by domain
whole_more gs g by domain limit p q = λ path there some.
    ⊎_elim {C = some_match glob_matches by path ≡ true} (λ h. p path there h) (λ h. q path there h)
    (or_cases (some_match glob_matches gs path) (glob_matches g path) (sym (some_same gs g path) ∙ some))

-- what is known of a list with one more glob
pub inclusion_more : (gs : List GlobValue) (g : GlobValue) (by : List GlobValue) (domain : Domain) (limit : ℕ) (each : List Coverage) (known : Inclusion) (told : Coverage) → TellsInclusion gs by domain each known →
    TellsCovering glob_matches g by domain limit told → TellsInclusion (gs ++ g ∷ []) by domain (each ++ told ∷ []) (inclusion_after known told)
inclusion_more gs g by domain limit each Whole Covered p q = whole_more gs g by domain limit p q
inclusion_more gs g by domain limit each Whole (Not path) p q = (path.items, q.0.0, some_last gs g path.items q.0.1, q.0.2)
inclusion_more gs g by domain limit each Whole Undecided p q = Contains-append_right each (Undecided ∷ []) Undecided (0, omega (arith), refl)
inclusion_more gs g by domain limit each Partial told p q = (p.0, p.1, some_before gs g p.0 p.2, p.3)
inclusion_more gs g by domain limit each Open Covered p q = Contains-append_left each (Covered ∷ []) Undecided p
inclusion_more gs g by domain limit each Open (Not path) p q = (path.items, q.0.0, some_last gs g path.items q.0.1, q.0.2)
inclusion_more gs g by domain limit each Open Undecided p q = Contains-append_left each (Undecided ∷ []) Undecided p

-- two answers that are true together
same_bool : (a b : Bool) → (a ≡ true → b ≡ true) → (b ≡ true → a ≡ true) → a ≡ b
same_bool true b f g = sym (f refl)
same_bool false true f g = g refl
same_bool false false f g = refl

-- lists that include each other match the same paths
pub both_included : (first second : List GlobValue) (domain : Domain) → IsIncluded first second domain → IsIncluded second first domain → AreEqual first second domain
both_included first second domain p q = λ path there. same_bool (some_match glob_matches first path) (some_match glob_matches second path) (p path there) (q path there)
