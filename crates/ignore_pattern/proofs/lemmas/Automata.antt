-- Patterns that share an automaton.
use Rattle.std.proofs.Common.{◌≡◌, ℕ, zero, suc, ◌+◌, ◌≤◌, ◌⊎◌, inl, inr, Bool, true, false, true≢false, if◌then◌else◌, List, [], ◌∷◌, ◌++◌, length, IsTrue, refl, ap, sym, ◌∙◌, subst, arith}
use Rattle.std.specs.Prelude.{◌↔◌}
use Rattle.std.specs.List.{list_all}
use Rattle.std.proofs.Math.Logic.{⊎_elim}
use Rattle.bit_sets.specs.Texts.{AllBytes}
use Rattle.byte_nfa.specs.Steps.{State, match_state, union_state, HasNumber, Accepts, NfaValue}
use Rattle.byte_nfa.specs.Building.{Agrees, Pushes, Grows}
use Rattle.ignore_pattern.specs.Elements.{Folders, element_matches, elements_match}
use Rattle.ignore_pattern.specs.Patterns.{Pattern, last_component, pattern_matches}
use Rattle.ignore_pattern.specs.Automata.{matches_at, MatchesAbove, SomeAbove, above_index, IsAutomatonOf}
use Rattle.ignore_pattern.specs.inner.Views.{is_inside}
use Rattle.ignore_pattern.specs.inner.States.{HasBelow, BuildsPattern, TellsAbove, IsFor}
use Rattle.byte_nfa.specs.Leading.{Builds}
use Rattle.bit_sets.proofs.lemmas.Cuts.{both}
use Rattle.byte_nfa.proofs.lemmas.Growing.{agrees_old, agrees_higher, builds_then, in_push}
use Rattle.ignore_pattern.proofs.lemmas.Below.{accepted_or_below}
use Rattle.ignore_pattern.proofs.lemmas.LastComponents.{last_matches}

-- ---- one pattern

-- bytes that pass another test that is equal lead to the same state
same_builds : (test test2 : List ℕ → Bool) (old new : List State) (s e : ℕ) → ((path : List ℕ) → IsTrue (test path) ↔ IsTrue (test2 path)) → Builds test old new s e → Builds test2 old new s e
same_builds test test2 old new s e same builds = λ a agrees k w bytes. let one = builds a agrees k w bytes in (
  λ h. let (y, z, cut, all, after) = one.0 h in (y, z, cut, (same y).0 all, after),
  λ (y, z, cut, all, after). one.1 (y, z, cut, (same y).1 all, after),
)

-- a pattern for whole paths
pub whole_built : (ignore_case : Bool) (p : Pattern) (old new : List State) (s e : ℕ) → p.whole ≡ true → Builds (elements_match ignore_case p.elements) old new s e → Builds (pattern_matches ignore_case p) old new s e
unfolding pattern_matches
whole_built ignore_case p old new s e whole builds =
    same_builds (elements_match ignore_case p.elements) (pattern_matches ignore_case p) old new s e
    (λ path. let is : path ≡ (if p.whole then path else last_component path) = rw whole refl in
    (λ h. subst (λ l. IsTrue (elements_match ignore_case p.elements l)) is h, λ h. subst (λ l. IsTrue (elements_match ignore_case p.elements l)) (sym is) h))
    builds

-- a pattern for last components
pub last_built : (ignore_case : Bool) (p : Pattern) (old later new : NfaValue) (s t e : ℕ) → p.whole ≡ false → IsTrue (list_all is_inside p.elements)
    → Grows old later → Builds (elements_match ignore_case p.elements) old.states later.states t e → Grows later new → Builds (element_matches false Folders) later.states new.states s t
    → Builds (pattern_matches ignore_case p) old.states new.states s e
unfolding pattern_matches
last_built ignore_case p old later new s t e whole inside grows builds grows2 folders =
    same_builds (both (element_matches false Folders) (elements_match ignore_case p.elements)) (pattern_matches ignore_case p) old.states new.states s e
    (λ path. let is : last_component path ≡ (if p.whole then path else last_component path) = rw whole refl in
    let m = last_matches ignore_case p.elements path inside in
    (λ h. subst (λ l. IsTrue (elements_match ignore_case p.elements l)) is (m.0 h), λ h. m.1 (subst (λ l. IsTrue (elements_match ignore_case p.elements l)) (sym is) h)))
    (builds_then (element_matches false Folders) (elements_match ignore_case p.elements) old later new s t e grows grows2 builds folders)

-- the states that lead to an end, and to what is below
pub pattern_built : (ignore_case : Bool) (p : Pattern) (j f b : ℕ) (old mid parted new : NfaValue) (s e u : ℕ) → Pushes old mid e (match_state j) → Pushes mid parted u (union_state (e ∷ b ∷ []))
    → Grows parted new → Builds (pattern_matches ignore_case p) parted.states new.states s u → BuildsPattern ignore_case p j f b old.states new.states s
pattern_built ignore_case p j f b old mid parted new s e u pushed union grows builds = λ a agrees below path k bytes.
    let low = length old.states in
    let more : low ≤ length parted.states = omega (arith, pushed.len, union.len) in
    let agrees2 : Agrees a parted.states low (length parted.states) = agrees_old a parted.states new.states low grows.keeps agrees in
    let agrees1 : Agrees a mid.states low (length mid.states) = agrees_old a mid.states parted.states low union.keeps agrees2 in
    let one = accepted_or_below a (pattern_matches ignore_case p) s u e b j f k path bytes (builds a (agrees_higher a new.states low (length parted.states) more agrees))
    (union.adds a low (omega (arith, pushed.len)) agrees2) (pushed.adds a low (omega arith) agrees1) below in (
      λ h. ⊎_elim {C = ((j ≡ k) × IsTrue (pattern_matches ignore_case p path)) ⊎ ((f ≡ k) × MatchesAbove ignore_case p path)}
          (λ m. inl m) (λ (is, folder, rest, cut, m). inr (is, (folder, rest, cut, m))) (one.0 h),
      λ h. one.1 (⊎_elim {C = ((j ≡ k) × IsTrue (pattern_matches ignore_case p path)) ⊎ ((f ≡ k) × (folder rest : List ℕ) × (path ≡ folder ++ 47 ∷ rest) × IsTrue (pattern_matches ignore_case p folder))}
          (λ m. inl m) (λ (is, above). let (folder, rest, cut, m) = above in inr (is, folder, rest, cut, m)) h),
    )

-- ---- one pattern more

-- the pattern matches as that of the number k
abbrev Last : Bool → List Pattern → Pattern → ℕ → List ℕ → Type 0
Last ignore_case ps p k path = (length ps ≡ k) × IsTrue (pattern_matches ignore_case p path)

matches_push : (ignore_case : Bool) (ps : List Pattern) (p : Pattern) (k : ℕ) (path : List ℕ)
    → IsTrue (matches_at ignore_case (ps ++ p ∷ []) k path) ↔ (IsTrue (matches_at ignore_case ps k path) ⊎ Last ignore_case ps p k path)
matches_push ignore_case [] p zero path = (λ h. inr (refl, h), λ h. ⊎_elim {C = IsTrue (pattern_matches ignore_case p path)} (λ no. absurd (true≢false (sym no))) (λ last. last.1) h)
matches_push ignore_case [] p (suc k) path = (
  λ no. absurd (true≢false (sym no)),
  λ h. ⊎_elim {C = IsTrue (matches_at ignore_case [] k path)} (λ no. no) (λ last. absurd (let e = last.0 in omega arith)) h,
)
matches_push ignore_case (q ∷ qs) p zero path = (
  λ h. inl h,
  λ h. ⊎_elim {C = IsTrue (pattern_matches ignore_case q path)} (λ first. first) (λ last. absurd (let e = last.0 in omega arith)) h,
)
matches_push ignore_case (q ∷ qs) p (suc k) path =
    let others = matches_push ignore_case qs p k path in (
      λ h. ⊎_elim {C = IsTrue (matches_at ignore_case qs k path) ⊎ Last ignore_case (q ∷ qs) p (suc k) path} (λ earlier. inl earlier) (λ last. inr (ap suc last.0, last.1)) (others.0 h),
      λ h. ⊎_elim {C = IsTrue (matches_at ignore_case (qs ++ p ∷ []) k path)} (λ earlier. others.1 (inl earlier)) (λ last. others.1 (inr ((let e = last.0 in omega arith), last.1))) h,
    )

above_push : (ignore_case negated : Bool) (ps : List Pattern) (p : Pattern) (path : List ℕ)
    → SomeAbove ignore_case negated (ps ++ p ∷ []) path ↔ (SomeAbove ignore_case negated ps path ⊎ ((p.negated ≡ negated) × MatchesAbove ignore_case p path))
above_push ignore_case negated [] p path = (
  λ h. ⊎_elim {C = ⊥ ⊎ ((p.negated ≡ negated) × MatchesAbove ignore_case p path)} (λ is. inr is) (λ no. absurd no) h,
  λ h. ⊎_elim {C = ((p.negated ≡ negated) × MatchesAbove ignore_case p path) ⊎ ⊥} (λ no. absurd no) (λ is. inl is) h,
)
above_push ignore_case negated (q ∷ qs) p path =
    let others = above_push ignore_case negated qs p path in (
      λ h. ⊎_elim {C = SomeAbove ignore_case negated (q ∷ qs) path ⊎ ((p.negated ≡ negated) × MatchesAbove ignore_case p path)}
          (λ here. inl (inl here))
          (λ later. ⊎_elim {C = SomeAbove ignore_case negated (q ∷ qs) path ⊎ ((p.negated ≡ negated) × MatchesAbove ignore_case p path)}
          (λ earlier. inl (inr earlier)) (λ last. inr last) (others.0 later)) h,
      λ h. ⊎_elim {C = SomeAbove ignore_case negated (q ∷ (qs ++ p ∷ [])) path}
          (λ front. ⊎_elim {C = SomeAbove ignore_case negated (q ∷ (qs ++ p ∷ [])) path} (λ here. inl here) (λ earlier. inr (others.1 (inl earlier))) front)
          (λ last. inr (others.1 (inr last))) h,
    )

-- no pattern leads anywhere yet
pub is_for_none : (ignore_case : Bool) (n : ℕ) (m : NfaValue) → m.starts ≡ [] → IsFor ignore_case [] n m
is_for_none ignore_case n m none = λ a agrees path k bytes. (
  λ (s, at, h). absurd (subst (HasNumber s) none at),
  λ some. ⊎_elim {C = (s : ℕ) × HasNumber s m.starts × Accepts a k s path} (λ no. absurd (true≢false (sym no))) (λ (negated, is, none_of). absurd none_of) some,
)

module _ (ignore_case : Bool) (p : Pattern) (n b : ℕ) (old mid new : NfaValue) (s : ℕ) (ps : List Pattern) (below : HasBelow old b (above_index n p.negated))
    (grows : Grows old mid) (built : BuildsPattern ignore_case p (length ps) (above_index n p.negated) b old.states mid.states s) (states : new.states ≡ mid.states)
    (starts : new.starts ≡ mid.starts ++ s ∷ []) (before : IsFor ignore_case ps n old) (a : List State) (agrees' : Agrees a new.states 0 (length new.states))
    (path : List ℕ) (k : ℕ) (bytes : AllBytes path) where
  -- the path leads from some start to the index
  abbrev FromStart : Type 0
  FromStart = (t : ℕ) × HasNumber t new.starts × Accepts a k t path

  abbrev Tells : Type 0
  Tells = IsTrue (matches_at ignore_case (ps ++ p ∷ []) k path) ⊎ TellsAbove ignore_case (ps ++ p ∷ []) n k path

  agrees_mid : Agrees a mid.states 0 (length mid.states)
  agrees_mid = subst (λ l. Agrees a l 0 (length l)) states agrees'

  agrees_first : Agrees a old.states 0 (length old.states)
  agrees_first = agrees_old a old.states mid.states 0 grows.keeps agrees_mid

  starts' : new.starts ≡ old.starts ++ s ∷ []
  starts' = starts ∙ ap (λ l. l ++ s ∷ []) grows.starts

  one : Accepts a k s path ↔ (((length ps ≡ k) × IsTrue (pattern_matches ignore_case p path)) ⊎ ((above_index n p.negated ≡ k) × MatchesAbove ignore_case p path))
  one = built a (agrees_higher a mid.states 0 (length old.states) (omega arith) agrees_mid) (below.is_below a agrees_first) path k bytes

  others : ((t : ℕ) × HasNumber t old.starts × Accepts a k t path) ↔ (IsTrue (matches_at ignore_case ps k path) ⊎ TellsAbove ignore_case ps n k path)
  others = before a agrees_first path k bytes

  there : FromStart → Tells
  there (t, at, h) = ⊎_elim {C = Tells}
      (λ earlier. ⊎_elim {C = Tells}
      (λ m. inl ((matches_push ignore_case ps p k path).1 (inl m)))
      (λ (negated, is, some). inr (negated, is, (above_push ignore_case negated ps p path).1 (inl some)))
      (others.0 (t, earlier, h)))
      (λ is. ⊎_elim {C = Tells}
      (λ m. inl ((matches_push ignore_case ps p k path).1 (inr m)))
      (λ m. inr (p.negated, m.0, (above_push ignore_case p.negated ps p path).1 (inr (refl, m.1))))
      (one.0 (subst (λ u. Accepts a k u path) is h)))
      ((in_push t s old.starts).0 (subst (HasNumber t) starts' at))

  earlier_start : ((t : ℕ) × HasNumber t old.starts × Accepts a k t path) → FromStart
  earlier_start (t, at, h) = (t, subst (HasNumber t) (sym starts') ((in_push t s old.starts).1 (inl at)), h)

  last_start : Accepts a k s path → FromStart
  last_start h = (s, subst (HasNumber s) (sym starts') ((in_push s s old.starts).1 (inr refl)), h)

  back : Tells → FromStart
  back h = ⊎_elim {C = FromStart}
      (λ m. ⊎_elim {C = FromStart} (λ earlier. earlier_start (others.1 (inl earlier))) (λ last. last_start (one.1 (inl last))) ((matches_push ignore_case ps p k path).0 m))
      (λ (negated, is, some). ⊎_elim {C = FromStart}
      (λ earlier. earlier_start (others.1 (inr (negated, is, earlier))))
      (λ m. last_start (one.1 (inr (ap (above_index n) m.0 ∙ is, m.1))))
      ((above_push ignore_case negated ps p path).0 some)) h

pub one_more : (ignore_case : Bool) (p : Pattern) (n b : ℕ) (old mid new : NfaValue) (s : ℕ) (ps : List Pattern) → HasBelow old b (above_index n p.negated)
    → Grows old mid → BuildsPattern ignore_case p (length ps) (above_index n p.negated) b old.states mid.states s → new.states ≡ mid.states → new.starts ≡ mid.starts ++ s ∷ []
    → IsFor ignore_case ps n old → IsFor ignore_case (ps ++ p ∷ []) n new
one_more ignore_case p n b old mid new s ps below grows built states starts before = λ a agrees path k bytes. (
  there ignore_case p n b old mid new s ps below grows built states starts before a agrees path k bytes,
  back ignore_case p n b old mid new s ps below grows built states starts before a agrees path k bytes,
)

-- ---- the whole automaton

past_end : (ignore_case : Bool) (ps : List Pattern) (k : ℕ) (path : List ℕ) → length ps ≤ k → matches_at ignore_case ps k path ≡ false
past_end ignore_case [] k path h = refl
past_end ignore_case (p ∷ ps) zero path h = absurd (omega (arith, h))
past_end ignore_case (p ∷ ps) (suc k) path h = past_end ignore_case ps k path (omega (arith, h))

above_past : (n : ℕ) (negated : Bool) → n ≤ above_index n negated
above_past n true = omega arith
above_past n false = omega arith

same_kind : (n : ℕ) (b c : Bool) → above_index n b ≡ above_index n c → b ≡ c
same_kind n true true h = refl
same_kind n false false h = refl
same_kind n true false h = absurd (omega (arith, h))
same_kind n false true h = absurd (omega (arith, h))

pub is_automaton : (ignore_case : Bool) (ps : List Pattern) (m : NfaValue) → m.index_count ≡ length ps + 2 → IsFor ignore_case ps (length ps) m → IsAutomatonOf ignore_case ps m
is_automaton ignore_case ps m count is = record {
  count = count;
  reached = λ path k bytes low.
      let all = is m.states (λ s low high. refl) path k bytes in (
        λ h. ⊎_elim {C = IsTrue (matches_at ignore_case ps k path)} (λ found. found)
            (λ (negated, at, some). absurd (omega (arith, low, at, above_past (length ps) negated))) (all.0 h),
        λ h. all.1 (inl h),
      );
  above = λ path negated bytes.
      let all = is m.states (λ s low high. refl) path (above_index (length ps) negated) bytes in (
        λ h. ⊎_elim {C = SomeAbove ignore_case negated ps path}
            (λ found. absurd (true≢false (sym found ∙ past_end ignore_case ps (above_index (length ps) negated) path (above_past (length ps) negated))))
            (λ (b, at, some). subst (λ c. SomeAbove ignore_case c ps path) (same_kind (length ps) b negated at) some) (all.0 h),
        λ h. all.1 (inr (negated, refl, h)),
      );
}
