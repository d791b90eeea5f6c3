-- Paths below ignored folders, as automata tell of them.
use Rattle.std.proofs.Common.{◌≡◌, ℕ, zero, suc, ◌+◌, ◌<◌, ◌≤◌, ◌⊎◌, inl, inr, Bool, true, false, true≢false, List, [], ◌∷◌, ◌++◌, length, take, IsTrue, refl, ap, sym, subst, ◌∙◌, arith}
use Rattle.std.specs.Prelude.{◌↔◌, not, IsFalse, Contains, Some, slice_get, slice_index}
use Rattle.std.proofs.lemmas.Bool.{cases_lt}
use Rattle.std.proofs.lemmas.Option.{slice_get_within}
use Rattle.std.proofs.Math.Logic.{⊎_elim}
use Rattle.bit_sets.specs.Texts.{AllBytes}
use Rattle.bit_sets.proofs.lemmas.Texts.{front_bytes}
use Rattle.byte_nfa.specs.Steps.{NfaValue, IsReached}
use Rattle.ignore_pattern.specs.Patterns.{Pattern, pattern_matches}
use Rattle.glob_relations.specs.Answers.{some_match}
use Rattle.glob_relations.specs.Rules.{IsRival, IsDecided, IsDecidedAlone, IgnoresFolder, IsHiddenBy, IsHidden}
use Rattle.glob_relations.specs.declared.search.Question.{Question}
use Rattle.glob_relations.specs.inner.Closed.{IsClosed, IsClosedBy, IsClosedAbove, IsOpen, ignores_of}
use Rattle.glob_relations.specs.Unused.{items_at}
use Rattle.glob_relations.specs.inner.Automata.{SomeMatches, IsFor, FindsEach, FindsFrom, indexed_rules, numbered, under}
use Rattle.glob_relations.specs.inner.Rows.{IsAskedText, IsWantedBy, IsWantedText}
use Rattle.glob_relations.proofs.lemmas.Finding.{MatchesFrom, numbered_there, numbered_back}
use Rattle.glob_relations.proofs.lemmas.Automata.{some_there, some_back, wanted_missed}
use Rattle.glob_relations.proofs.lemmas.Rivals.{missed_decided}
use Rattle.glob_relations.proofs.lemmas.Rows.{get_some}

-- ---- the folders above a path, from the top

-- no folder above the path with fewer bytes than the number is closed
abbrev pub IsClearTo : List Bool → NfaValue → List ℕ → ℕ → Type 0
IsClearTo ignores m path n = (folder : List ℕ) (rest : List ℕ) → path ≡ folder ++ 47 ∷ rest → length folder < n → IsClosed ignores 0 (IsReached m folder) → ⊥

slash_at : (folder rest : List ℕ) → (take (length folder) (folder ++ 47 ∷ rest) ≡ folder) × (slice_get (folder ++ 47 ∷ rest) (length folder) ≡ Some 47)
slash_at [] rest = (refl, refl)
slash_at (x ∷ folder) rest = let (before, here) = slash_at folder rest in (ap (λ (y : List ℕ). x ∷ y) before, here)

-- the byte at a place
pub get_at : (xs : List ℕ) (i x : ℕ) → i < length xs → slice_index xs i ≡ x → slice_get xs i ≡ Some x
get_at [] i x lt e = absurd (omega arith)
get_at (y ∷ ys) zero x lt e = ap Some e
get_at (y ∷ ys) (suc i) x lt e = get_at ys i x (omega arith) e

pub index_at : (xs : List ℕ) (i x : ℕ) → slice_get xs i ≡ Some x → slice_index xs i ≡ x
index_at [] i x e = absurd cc
index_at (y ∷ ys) zero x e = cc
index_at (y ∷ ys) (suc i) x e = index_at ys i x e

pub split_at : (xs : List ℕ) (i x : ℕ) → slice_get xs i ≡ Some x → (rest : List ℕ) × (xs ≡ take i xs ++ x ∷ rest)
split_at [] i x e = absurd cc
split_at (y ∷ ys) zero x e = let same : y ≡ x = cc in (ys, ap (λ (z : ℕ). z ∷ ys) same)
split_at (y ∷ ys) (suc i) x e = let (rest, is) = split_at ys i x e in (rest, ap (λ (zs : List ℕ). y ∷ zs) is)

module _ (ignores : List Bool) (m : NfaValue) (path : List ℕ) (n : ℕ) where
  -- one more byte
  pub clear_more : IsClearTo ignores m path n → (slice_get path n ≡ Some 47 → IsClosed ignores 0 (IsReached m (take n path)) → ⊥) → IsClearTo ignores m path (n + 1)
  clear_more before here folder rest is less closed = ⊎_elim {C = ⊥}
      (λ low. before folder rest is low closed)
      (λ high.
      let same : length folder ≡ n = omega arith in
      let (up, slash) = slash_at folder rest in
      let cut : take n path ≡ folder = ap (λ (y : List ℕ). take n y) is ∙ ap (λ (j : ℕ). take j (folder ++ 47 ∷ rest)) (sym same) ∙ up in
      here (ap (λ (y : List ℕ). slice_get y n) is ∙ ap (slice_get (folder ++ 47 ∷ rest)) (sym same) ∙ slash) (subst (λ (y : List ℕ). IsClosed ignores 0 (IsReached m y)) (sym cut) closed))
      (cases_lt (length folder) n)

  -- all bytes
  pub clear_all : length path ≤ n → IsClearTo ignores m path n → IsOpen ignores 0 (IsReached m) path
  clear_all all clear folder rest is closed = clear folder rest is (let (up, slash) = slash_at folder rest in let lt = slice_get_within (folder ++ 47 ∷ rest) (length folder) 47 slash in let len = ap length is in omega arith) closed

-- ---- rules that ignore folders

get_ignores : (ps : List Pattern) (k : ℕ) (b : Bool) → slice_get (ignores_of ps) k ≡ Some b → (p : Pattern) × (slice_get ps k ≡ Some p) × (not p.negated ≡ b)
get_ignores [] k b e = absurd cc
get_ignores (p ∷ ps) zero b e = let same : not p.negated ≡ b = cc in (p, refl, same)
get_ignores (p ∷ ps) (suc k) b e = get_ignores ps k b e

ignores_at : (ps : List Pattern) (k : ℕ) (p : Pattern) → slice_get ps k ≡ Some p → slice_get (ignores_of ps) k ≡ Some (not p.negated)
ignores_at [] k p e = absurd cc
ignores_at (q ∷ ps) zero p e = let same : q ≡ p = cc in ap (λ (x : Pattern). Some (not x.negated)) same
ignores_at (q ∷ ps) (suc k) p e = ignores_at ps k p e

not_true : (b : Bool) → not b ≡ true → IsFalse b
not_true true e = absurd (true≢false (sym e))
not_true false e = refl

not_false : (b : Bool) → IsFalse b → not b ≡ true
not_false true e = absurd (true≢false e)
not_false false e = refl

-- from each index that an automaton finds, from the number itself
pub finds_from : (ignore_case : Bool) (ps : List Pattern) (m : NfaValue) → FindsEach (pattern_matches ignore_case) ps m → FindsFrom (pattern_matches ignore_case) 0 ps m
finds_from ignore_case ps m finds k p path at bytes =
    let same : k ≡ 0 + k = omega arith in
    subst (λ (j : ℕ). IsReached m path j ↔ IsTrue (pattern_matches ignore_case p path)) same (finds k p path at bytes)

module _ (ignore_case : Bool) (first : ℕ) (ps : List Pattern) (m : NfaValue) (finds : FindsFrom (pattern_matches ignore_case) first ps m) where
  -- an automaton is closed after an ignored folder
  closed_ignores : (folder : List ℕ) → AllBytes folder → (k : ℕ) → IsClosedBy (ignores_of ps) first (IsReached m folder) k ↔ IgnoresFolder ignore_case ps folder k
  closed_ignores folder bytes k = (
    λ (at, has, none).
        let (p, there, kept) = get_ignores ps k true at in (
          p,
          there,
          not_true p.negated kept,
          ((finds k p folder there bytes).0 has, λ j q later at' h. none j later (slice_get_within (ignores_of ps) j (not q.negated) (ignores_at ps j q at')) ((finds j q folder at' bytes).1 h)),
        ),
    λ (p, there, kept, (applied, none)). (
      ignores_at ps k p there ∙ ap Some (not_false p.negated kept),
      (finds k p folder there bytes).1 applied,
      λ j later within h.
          let (b, on) = get_some (ignores_of ps) j within in
          let (q, at', is) = get_ignores ps j b on in
          none j q later at' ((finds j q folder at' bytes).0 h),
    ),
  )

  module _ (path : List ℕ) (bytes : AllBytes path) where
    above : (folder rest : List ℕ) → path ≡ folder ++ 47 ∷ rest → AllBytes folder
    above folder rest is = front_bytes folder (47 ∷ rest) (subst AllBytes is bytes)

    pub closed_hides : (k : ℕ) → IsClosedAbove (ignores_of ps) first (IsReached m) path k → IsHiddenBy ignore_case ps path k
    closed_hides k (folder, rest, is, closed) = (folder, rest, is, (closed_ignores folder (above folder rest is) k).0 closed)

    pub open_shows : IsOpen (ignores_of ps) first (IsReached m) path ↔ (IsHidden ignore_case ps path → ⊥)
    open_shows = (
      λ clear (k, (folder, rest, is, ignores)). clear folder rest is (k, (closed_ignores folder (above folder rest is) k).1 ignores),
      λ shown folder rest is (k, closed). shown (k, (folder, rest, is, (closed_ignores folder (above folder rest is) k).0 closed)),
    )

-- ---- an automaton for a rule, its rivals and all rules

module _ {A : Type 0} (matches : A → List ℕ → Bool) (path : List ℕ) (k : ℕ) where
  match_left : (xs ys : List (A × ℕ)) → SomeMatches matches xs path k → SomeMatches matches (xs ++ ys) path k
  match_left [] ys h = absurd h
  match_left (x ∷ xs) ys (inl this) = inl this
  match_left (x ∷ xs) ys (inr other) = inr (match_left xs ys other)

  match_right : (xs ys : List (A × ℕ)) → SomeMatches matches ys path k → SomeMatches matches (xs ++ ys) path k
  match_right [] ys h = h
  match_right (x ∷ xs) ys h = inr (match_right xs ys h)

  match_cases : (xs ys : List (A × ℕ)) → SomeMatches matches (xs ++ ys) path k → SomeMatches matches xs path k ⊎ SomeMatches matches ys path k
  match_cases [] ys h = inr h
  match_cases (x ∷ xs) ys (inl this) = inl (inl this)
  match_cases (x ∷ xs) ys (inr other) = ⊎_elim {C = SomeMatches matches (x ∷ xs) path k ⊎ SomeMatches matches ys path k} (λ h. inl (inr h)) (λ h. inr h) (match_cases xs ys other)

module _ {A : Type 0} (matches : A → List ℕ → Bool) (p : A) (by ps : List A) (m : NfaValue) (is : IsFor matches (indexed_rules p by ps) m) where
  reaches : (path : List ℕ) (k : ℕ) → AllBytes path → IsReached m path k ↔ SomeMatches matches (indexed_rules p by ps) path k
  reaches path k bytes = is m.states (λ s low high. refl) path k bytes

  -- the three ways to an index
  ways : (C : Type 0) (path : List ℕ) (k : ℕ) → AllBytes path → IsReached m path k → (0 ≡ k → IsTrue (matches p path) → C) → (1 ≡ k → IsTrue (some_match matches by path) → C)
      → (MatchesFrom matches 2 ps path k → C) → C
  ways C path k bytes reach mine other all = ⊎_elim {C = C}
      (λ (e, h). mine e h)
      (λ rest. ⊎_elim {C = C}
      (λ there. let (e, h) = some_back matches path 1 by k there in other e h)
      (λ there. all (numbered_back matches path 2 k ps there))
      (match_cases matches path k (under 1 by) (numbered 2 ps) rest))
      ((reaches path k bytes).0 reach)

  reaches_mine : (path : List ℕ) → AllBytes path → IsReached m path 0 ↔ IsTrue (matches p path)
  reaches_mine path bytes = (
    λ reach. ways (IsTrue (matches p path)) path 0 bytes reach (λ e h. h) (λ e h. absurd (omega arith)) (λ (j, e, rest). absurd (omega arith)),
    λ h. (reaches path 0 bytes).1 (inl (refl, h)),
  )

  reaches_other : (path : List ℕ) → AllBytes path → IsReached m path 1 ↔ IsTrue (some_match matches by path)
  reaches_other path bytes = (
    λ reach. ways (IsTrue (some_match matches by path)) path 1 bytes reach (λ e h. absurd (omega arith)) (λ e h. h) (λ (j, e, rest). absurd (omega arith)),
    λ h. (reaches path 1 bytes).1 (inr (match_left matches path 1 (under 1 by) (numbered 2 ps) (some_there matches path 1 by h))),
  )

  finds_rules : FindsFrom matches 2 ps m
  finds_rules k q path at bytes = (
    λ reach. ways (IsTrue (matches q path)) path (2 + k) bytes reach (λ e h. absurd (omega arith)) (λ e h. absurd (omega arith))
        (λ (j, e, (r, there, h)).
        let same : j ≡ k = omega arith in
        let is_q : r ≡ q = let here = sym there ∙ ap (slice_get ps) same ∙ at in cc in
        subst (λ (x : A). IsTrue (matches x path)) is_q h),
    λ h. (reaches path (2 + k) bytes).1 (inr (match_right matches path (2 + k) (under 1 by) (numbered 2 ps) (numbered_there matches path 2 k ps q at h))),
  )

-- the paths that the search wants are those about which the rule decides
pub asked_decided : (ignore_case : Bool) (ps : List Pattern) (i : ℕ) (p : Pattern) (others : List ℕ) (all : (k : ℕ) → Contains others k ↔ IsRival ps i p k) (m : NfaValue) (n : Question)
    → IsFor (pattern_matches ignore_case) (indexed_rules p (items_at ps others) ps) m → n.required ≡ 1 → n.ignores.items ≡ ignores_of ps → (path : List ℕ) → IsAskedText m n path ↔ IsDecided ignore_case ps i p n.domain path
asked_decided ignore_case ps i p others all m n is required ignores path = (
  λ (bytes, (ends, wanted, clear)). (
    alone.0 (bytes, (ends, subst (λ (r : ℕ). IsWantedBy r (IsReached m path)) required wanted)),
    (shows bytes).0 (subst (λ (l : List Bool). IsOpen l 2 (IsReached m) path) ignores clear),
  ),
  λ (decided, shown).
      let (bytes, (ends, wanted)) = alone.1 decided in (
        bytes,
        (
          ends,
          subst (λ (r : ℕ). IsWantedBy r (IsReached m path)) (sym required) wanted,
          subst (λ (l : List Bool). IsOpen l 2 (IsReached m) path) (sym ignores) ((shows bytes).1 shown),
        ),
      ),
)
  where
    by : List Pattern
    by = items_at ps others

    shows : AllBytes path → IsOpen (ignores_of ps) 2 (IsReached m) path ↔ (IsHidden ignore_case ps path → ⊥)
    shows bytes = open_shows ignore_case 2 ps m (finds_rules (pattern_matches ignore_case) p by ps m is) path bytes

    alone : IsWantedText m 1 n.domain path ↔ IsDecidedAlone ignore_case ps i p n.domain path
    alone =
        let wanted = wanted_missed (pattern_matches ignore_case) m p by n.domain path (reaches_mine (pattern_matches ignore_case) p by ps m is path) (reaches_other (pattern_matches ignore_case) p by ps m is path) in
        let decided = missed_decided ignore_case ps i p n.domain others all path in
        (λ h. decided.0 (wanted.0 h), λ h. wanted.1 (decided.1 h))
