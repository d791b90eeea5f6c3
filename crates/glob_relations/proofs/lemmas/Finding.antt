-- Which items of a list an automaton finds for a path.
use Rattle.std.proofs.Common.{◌≡◌, ℕ, zero, suc, ◌+◌, inl, inr, Bool, true≢false, List, [], ◌∷◌, IsTrue, refl, ap, sym, subst, ◌∙◌, arith}
use Rattle.std.specs.Prelude.{◌↔◌, IsFalse, Contains, Some, slice_get}
use Rattle.std.proofs.Math.Logic.{⊎_elim}
use Rattle.bit_sets.specs.Indexes.{has_index}
use Rattle.bit_sets.specs.declared.index_set.IndexSet.{IndexSet}
use Rattle.byte_nfa.specs.Sharing.{Shares}
use Rattle.byte_nfa.specs.Steps.{NfaValue, IsReached}
use Rattle.glob_relations.specs.Answers.{some_match, IsCovered, IsMissed}
use Rattle.glob_relations.specs.Domains.{IsIn}
use Rattle.glob_relations.specs.Unused.{items_at}
use Rattle.glob_relations.specs.declared.domain.Domain.{Domain}
use Rattle.glob_relations.specs.inner.Automata.{SomeMatches, IsFor, numbered, FindsEach}
use Rattle.glob_relations.proofs.lemmas.Domains.{is_in}
use Rattle.bit_sets.proofs.lemmas.IndexSets.{in_one}
use Rattle.glob_relations.proofs.lemmas.Unused.{none_match, some_at_back}

-- the item of the index k, where the first of the list has the index n, matches the path
abbrev pub MatchesFrom : {A : Type 0} → (A → List ℕ → Bool) → ℕ → List A → List ℕ → ℕ → Type 0
MatchesFrom {A} matches n ps path k = (j : ℕ) × (k ≡ n + j) × ((p : A) × (slice_get ps j ≡ Some p) × IsTrue (matches p path))

module _ {A : Type 0} (matches : A → List ℕ → Bool) (path : List ℕ) where
  pub numbered_there : (n j : ℕ) (ps : List A) (p : A) → slice_get ps j ≡ Some p → IsTrue (matches p path) → SomeMatches matches (numbered n ps) path (n + j)
  numbered_there n j [] p at h = absurd cc
  numbered_there n zero (q ∷ ps) p at h =
      let same : p ≡ q = cc in
      let here : n ≡ n + 0 = omega arith in
      inl (here, subst (λ (x : A). IsTrue (matches x path)) same h)
  numbered_there n (suc j) (q ∷ ps) p at h =
      let next : suc n + j ≡ n + suc j = omega arith in
      inr (subst (SomeMatches matches (numbered (suc n) ps) path) next (numbered_there (suc n) j ps p at h))

  pub numbered_back : (n k : ℕ) (ps : List A) → SomeMatches matches (numbered n ps) path k → MatchesFrom matches n ps path k
  numbered_back n k [] h = absurd h
  numbered_back n k (q ∷ ps) h = ⊎_elim {C = MatchesFrom matches n (q ∷ ps) path k}
      (λ (is, this). (0, omega arith, (q, refl, this)))
      (λ other. let (j, is, rest) = numbered_back (suc n) k ps other in (suc j, omega arith, rest))
      h

module _ {A : Type 0} (matches : A → List ℕ → Bool) where
  pub finds_each : (ps : List A) (m : NfaValue) → IsFor matches (numbered 0 ps) m → FindsEach matches ps m
  finds_each ps m is k p path at bytes =
      let reaches : IsReached m path k ↔ SomeMatches matches (numbered 0 ps) path k = is m.states (λ s low high. refl) path k bytes in (
        λ reach.
            let (j, same, (q, there, h)) = numbered_back matches path 0 k ps (reaches.0 reach) in
            let k_is : j ≡ k = omega arith in
            let q_is : q ≡ p = let here = sym there ∙ ap (slice_get ps) k_is ∙ at in cc in
            subst (λ (x : A). IsTrue (matches x path)) q_is h,
        λ h.
            let k_is : 0 + k ≡ k = omega arith in
            reaches.1 (subst (SomeMatches matches (numbered 0 ps) path) k_is (numbered_there matches path 0 k ps p at h)),
      )

  pub finds_shared : (ps : List A) (old new : NfaValue) → Shares old new → FindsEach matches ps old → FindsEach matches ps new
  finds_shared ps old new shares finds = λ k x path at bytes.
      let one = finds k x path at bytes in
      let same = shares.reached path k in
      (λ h. one.0 (same.0 h), λ h. same.1 (one.1 h))

module _ {A : Type 0} (matches : A → List ℕ → Bool) (ps : List A) (m : NfaValue) (domain : Domain) (path : List ℕ) (set : IndexSet)
    (finds : FindsEach matches ps m) (inside : IsIn domain path) (found : (k : ℕ) → IsTrue (has_index set k) ↔ IsReached m path k) where
  -- an item that matches is found
  found_there : (k : ℕ) (p : A) → slice_get ps k ≡ Some p → IsTrue (matches p path) → IsTrue (has_index set k)
  found_there k p at h = (found k).1 ((finds k p path at ((is_in domain path).0 inside).0).1 h)

  -- none of the items at indexes that were not found matches
  pub none_found : (ks : List ℕ) → ((k : ℕ) → Contains ks k → IsFalse (has_index set k)) → IsFalse (some_match matches (items_at ps ks) path)
  none_found ks off = none_match matches ps path ks (λ k at p is h. true≢false (sym (found_there k p is h) ∙ off k at))

  -- an item that was not found for a path does not cover what matches the path
  pub not_found_alone : (p : A) (by : List A) → IsMissed matches p by domain path → (k : ℕ) → IsFalse (has_index set k) → IsCovered matches p (items_at ps (k ∷ [])) domain → ⊥
  not_found_alone p by (inside', matched, none) k off covered =
      let (j, at, (q, is, h)) = some_at_back matches ps path (k ∷ []) (covered path inside' matched) in
      true≢false (sym (subst (λ (n : ℕ). IsTrue (has_index set n)) (sym (in_one k j at)) (found_there j q is h)) ∙ off)
