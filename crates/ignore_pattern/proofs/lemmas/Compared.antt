-- Patterns that share an index in an automaton.
use Rattle.std.proofs.Common.{◌≡◌, ℕ, ◌⊎◌, inl, inr, Bool, ◌≤◌, List, [], ◌∷◌, ◌++◌, length, refl, ap, sym, ◌∙◌, subst, arith}
use Rattle.std.specs.Prelude.{◌↔◌}
use Rattle.std.proofs.Math.Logic.{⊎_elim}
use Rattle.byte_nfa.specs.Steps.{state, match_state, HasNumber, Accepts, NfaValue}
use Rattle.byte_nfa.specs.Building.{Agrees, Pushes, Grows}
use Rattle.ignore_pattern.specs.Patterns.{Pattern, pattern_matches}
use Rattle.ignore_pattern.specs.Compared.{IndexedPattern, indexed, MatchesFor, SomeMatchFor, Compares}
use Rattle.ignore_pattern.specs.inner.States.{BuildsAlone}
use Rattle.byte_nfa.specs.Leading.{Builds}
use Rattle.byte_nfa.proofs.lemmas.Growing.{in_push, agrees_old, agrees_higher}
use Rattle.byte_nfa.proofs.lemmas.Leading.{accepted}

-- the states that lead to an end alone
pub alone_built : (ignore_case : Bool) (p : Pattern) (j : ℕ) (old mid new : NfaValue) (s e : ℕ) → Pushes old mid e (match_state j) → Grows mid new
    → Builds (pattern_matches ignore_case p) mid.states new.states s e → BuildsAlone ignore_case p j old.states new.states s
alone_built ignore_case p j old mid new s e pushed grows builds = λ a agrees path k bytes.
    let more : length old.states ≤ length mid.states = omega (arith, pushed.len) in
    let at : state a e ≡ match_state j = pushed.adds a (length old.states) (omega arith) (agrees_old a mid.states new.states (length old.states) grows.keeps agrees) in
    accepted a (pattern_matches ignore_case p) s e j k path bytes (builds a (agrees_higher a new.states (length old.states) (length mid.states) more agrees)) at

module _ (ignore_case : Bool) (x : IndexedPattern) (path : List ℕ) (k : ℕ) where
  some_push : (xs : List IndexedPattern) → SomeMatchFor ignore_case (xs ++ x ∷ []) path k ↔ (SomeMatchFor ignore_case xs path k ⊎ MatchesFor ignore_case x path k)
  some_push [] = (
    λ h. ⊎_elim {C = ⊥ ⊎ MatchesFor ignore_case x path k} (λ this. inr this) (λ no. absurd no) h,
    λ h. ⊎_elim {C = MatchesFor ignore_case x path k ⊎ ⊥} (λ no. absurd no) (λ this. inl this) h,
  )
  some_push (y ∷ ys) = (
    λ h. ⊎_elim {C = (MatchesFor ignore_case y path k ⊎ SomeMatchFor ignore_case ys path k) ⊎ MatchesFor ignore_case x path k}
        (λ here. inl (inl here))
        (λ later. ⊎_elim {C = (MatchesFor ignore_case y path k ⊎ SomeMatchFor ignore_case ys path k) ⊎ MatchesFor ignore_case x path k}
        (λ earlier. inl (inr earlier)) (λ last. inr last) ((some_push ys).0 later)) h,
    λ h. ⊎_elim {C = MatchesFor ignore_case y path k ⊎ SomeMatchFor ignore_case (ys ++ x ∷ []) path k}
        (λ front. ⊎_elim {C = MatchesFor ignore_case y path k ⊎ SomeMatchFor ignore_case (ys ++ x ∷ []) path k}
        (λ here. inl here) (λ earlier. inr ((some_push ys).1 (inl earlier))) front)
        (λ last. inr ((some_push ys).1 (inr last))) h,
  )

-- one pattern more
pub one_more_compared : (ignore_case : Bool) (p : Pattern) (j : ℕ) (old mid new : NfaValue) (s : ℕ) (xs : List IndexedPattern)
    → Grows old mid → BuildsAlone ignore_case p j old.states mid.states s → new.states ≡ mid.states → new.starts ≡ mid.starts ++ s ∷ []
    → Compares ignore_case xs old → Compares ignore_case (xs ++ indexed j p ∷ []) new
one_more_compared ignore_case p j old mid new s xs grows built states starts before = λ a agrees' path k bytes.
    let agrees : Agrees a mid.states 0 (length mid.states) = subst (λ l. Agrees a l 0 (length l)) states agrees' in
    let starts' : new.starts ≡ old.starts ++ s ∷ [] = starts ∙ ap (λ l. l ++ s ∷ []) grows.starts in
    let one = built a (agrees_higher a mid.states 0 (length old.states) (omega arith) agrees) path k bytes in
    let others = before a (agrees_old a old.states mid.states 0 grows.keeps agrees) path k bytes in
    let push = some_push ignore_case (indexed j p) path k xs in (
      λ (t, at, h). ⊎_elim {C = SomeMatchFor ignore_case (xs ++ indexed j p ∷ []) path k}
          (λ earlier. push.1 (inl (others.0 (t, earlier, h))))
          (λ is. push.1 (inr (one.0 (subst (λ u. Accepts a k u path) is h))))
          ((in_push t s old.starts).0 (subst (HasNumber t) starts' at)),
      λ some. ⊎_elim {C = (t : ℕ) × HasNumber t new.starts × Accepts a k t path}
          (λ earlier. let (t, at, h) = others.1 earlier in (t, subst (HasNumber t) (sym starts') ((in_push t s old.starts).1 (inl at)), h))
          (λ this. (s, subst (HasNumber s) (sym starts') ((in_push s s old.starts).1 (inr refl)), one.1 this))
          (push.0 some),
    )
