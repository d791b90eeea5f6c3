-- The automaton and the key of one glob.
use Rattle.std.proofs.Common.{◌≡◌, ℕ, ◌≤◌, ◌+◌, ◌*◌, Ok, inl, Bool, List, [], ◌∷◌, ◌++◌, length, IsTrue, refl, ap, sym, subst, arith}
use Rattle.std.specs.Prelude.{◌↔◌}
use Rattle.std.specs.Str.{chars}
use Rattle.std.proofs.Math.Logic.{⊎_elim}
use Rattle.std.proofs.Math.Nat.{mul-le-mul_left}
use Rattle.std.proofs.lemmas.List.{append_assoc}
use Rattle.glob_syntax.specs.declared.options.Options.{Options}
use Rattle.glob_syntax.specs.Token.{Tokens}
use Rattle.glob_syntax.specs.Reading.{reading}
use Rattle.glob_syntax.specs.StatesPerByte.{states_per_byte}
use Rattle.glob_syntax.specs.inner.Weight.{weight}
use Rattle.byte_nfa.specs.Steps.{NfaValue}
use Rattle.byte_nfa.specs.Runs.{max_reads}
use Rattle.glob_syntax.specs.After.{MeanAfter}
use Rattle.glob_strategy.specs.IndexedTokens.{SomeMeanAfter}
use Rattle.glob_syntax.specs.TokensMatch.{tokens_match}
use Rattle.glob_strategy.specs.IndexedTokens.{IndexedTokens, indexed, SomeMatches, IsFor}
use Rattle.bit_sets.proofs.lemmas.Booleans.{same_truth}
use Rattle.glob_path.specs.Below.{folder_start}
use Rattle.glob_text.specs.GlobMatches.{GlobValue, tokens_of_glob, glob_matches}
use Rattle.glob_text.specs.Cost.{cost, max_visits, max_visits_below}
use Rattle.globset_glob.specs.GlobBelow.{GlobMatchesBelow}
use Rattle.globset_glob.specs.inner.GlobNfa.{IsAutomatonOf}
use Rattle.glob_text.proofs.lemmas.Globs.{tokens_are}

-- an automaton to which the glob's tokens were added, and nothing else
pub automaton_is : (g : GlobValue) (o : Options) (ts : Tokens) (old new : NfaValue) → o ≡ g.options → reading g.options (chars g.text) ≡ Ok ts → weight o ts ≤ states_per_byte o * length g.text
    → IsFor old [] → max_reads old ≡ 0 → ((xs : List IndexedTokens) → IsFor old xs → IsFor new (xs ++ indexed o ts 0 ∷ [])) → max_reads new ≤ max_reads old + (weight o ts + 4) → IsAutomatonOf g new
automaton_is g o ts old new options read few none empty adds count = record {
  tokens = subst (λ us. IsFor new (indexed g.options us 0 ∷ [])) (sym (tokens_are g ts read)) (subst (λ p. IsFor new (indexed p ts 0 ∷ [])) options (adds [] none));
  reads = let same = ap (λ p. states_per_byte p * length g.text) options in omega (arith, empty, count, few, same);
}

-- whether a run finds something is whether the glob matches
pub one_matches : (g : GlobValue) (path : List ℕ) (found : Bool) → IsTrue found ↔ ((k : ℕ) × SomeMatches (indexed g.options (tokens_of_glob g) 0 ∷ []) path k) → found ≡ glob_matches g path
unfolding glob_matches
one_matches g path found h =
    let matches = tokens_match g.options (tokens_of_glob g) path in
    same_truth found matches (
      λ y. let (k, some) = h.0 y in ⊎_elim {C = IsTrue matches} (λ this. this.1) (λ no. absurd no) some,
      λ y. h.1 (0, inl (refl, y)),
    )

-- whether a key that decides the glob matches is whether the glob does
pub key_matches_glob : (g : GlobValue) (path : List ℕ) (found : Bool) {P : Type 0} → IsTrue found ↔ P → IsTrue (tokens_match g.options (tokens_of_glob g) path) ↔ P → found ≡ glob_matches g path
unfolding glob_matches
key_matches_glob g path found h tells = same_truth found (tokens_match g.options (tokens_of_glob g) path) (λ y. tells.1 (h.0 y), λ y. h.1 (tells.0 y))

-- a glob may have a visit for each path
pub one_visit : (g : GlobValue) (path : List ℕ) → 1 ≤ max_visits g path
one_visit g path =
    let positions = length path + 1 in
    let some : 1 ≤ cost g = omega arith in
    let all : positions * 1 ≤ positions * cost g = mul-le-mul_left positions some in
    omega (arith, all)

-- ---- below a folder

-- whether the glob's tokens match some path that begins with the folder and a `/` is whether the glob matches some path below it
means_below : (g : GlobValue) (folder : List ℕ) → MeanAfter g.options (tokens_of_glob g) (folder_start folder) ↔ GlobMatchesBelow g folder
unfolding glob_matches
means_below g folder =
    let matches = λ (path : List ℕ). IsTrue (tokens_match g.options (tokens_of_glob g) path) in (
      λ (rest, bytes, h). (rest, bytes, subst matches (append_assoc folder (47 ∷ []) rest) h),
      λ (rest, bytes, h). (rest, bytes, subst matches (sym (append_assoc folder (47 ∷ []) rest)) h),
    )

pub key_matches_below : (g : GlobValue) (folder : List ℕ) (found : Bool) {P : Type 0} → IsTrue found ↔ P → MeanAfter g.options (tokens_of_glob g) (folder_start folder) ↔ P
    → IsTrue found ↔ GlobMatchesBelow g folder
key_matches_below g folder found h tells = (λ y. (means_below g folder).0 (tells.1 (h.0 y)), λ some. h.1 (tells.0 ((means_below g folder).1 some)))

pub one_matches_below : (g : GlobValue) (folder : List ℕ) (found : Bool) → IsTrue found ↔ SomeMeanAfter (indexed g.options (tokens_of_glob g) 0 ∷ []) (folder_start folder)
    → IsTrue found ↔ GlobMatchesBelow g folder
one_matches_below g folder found h =
    let this = MeanAfter g.options (tokens_of_glob g) (folder_start folder) in
    key_matches_below g folder found (λ y. ⊎_elim {C = this} (λ some. some) (λ no. absurd no) (h.0 y), λ some. h.1 (inl some)) (λ some. some, λ some. some)

-- a glob may have a visit for each folder
pub one_visit_below : (g : GlobValue) (folder : List ℕ) → 1 ≤ max_visits_below g folder
one_visit_below g folder =
    let positions = length folder + 2 in
    let some : 1 ≤ cost g = omega arith in
    let all : positions * 1 ≤ positions * cost g = mul-le-mul_left positions some in
    omega (arith, all)
