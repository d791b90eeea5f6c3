-- The states of tokens accept what the tokens match.
use Rattle.std.proofs.Common.{◌≡◌, ℕ, inl, inr, Bool, true, false, true≢false, not, ◌&&◌, ◌||◌, List, [], ◌∷◌, ◌++◌, IsTrue, refl, ap, sym, ◌∙◌, subst}
use Rattle.std.specs.Prelude.{◌↔◌, ◌==◌, encode_utf8}
use Rattle.std.specs.List.{list_all}
use Rattle.std.proofs.lemmas.Bool.{eqb-true}
use Rattle.std.proofs.Math.Logic.{⊎_elim}
use Rattle.glob_syntax.specs.declared.options.Options.{Options}
use Rattle.glob_syntax.specs.Token.{Token, Literal, Any, ZeroOrMore, RecursivePrefix, RecursiveSuffix, RecursiveZeroOrMore, Class, Group, Tokens, end, and_then, Branches, none, branch}
use Rattle.glob_syntax.specs.ClassBytes.{class_has}
use Rattle.glob_syntax.specs.TokenMatches.{token_matches, some_branch_matches, tokens_match_each, is_wild, is_wild_character, begins_with_slash, ends_with_slash, slash}
use Rattle.bit_sets.specs.Texts.{AllBytes, ends_with, is_empty, is_one_byte}
use Rattle.glob_syntax.specs.Blank.{is_kept, any_kept}
use Rattle.byte_nfa.specs.Steps.{State, union_state, match_state, state, HasNumber, Accepts, by_skip}
use Rattle.glob_syntax.specs.inner.CharacterRows.{passes, wild_rows}
use Rattle.glob_strategy.specs.inner.TokenStates.{is_slash, spells, is_letter, IsSpelled, IsToSlash, ReadsEach, AreRead, IsCharacter, IsBuilt, IsBuiltToken, AreBuilt}
use Rattle.byte_nfa.specs.Leading.{is_any_byte, Leads, Stays}
use Rattle.bit_sets.proofs.lemmas.Booleans.{and_both, and_first, and_second, or_first, or_second, or_either, same_truth}
use Rattle.byte_nfa.proofs.lemmas.Leading.{accepted, any_all, leads_none, leads_then, leads_same, leads_iff, leads_read, leads_stay, skips_goes}
use Rattle.glob_syntax.proofs.lemmas.Characters.{some_row, wild_rows_are}
use Rattle.bit_sets.proofs.lemmas.Cuts.{both, cut_of, some_cut-append, empty_is}
use Rattle.glob_strategy.proofs.lemmas.Spelling.{letter_is, spells_none, spells_more}
use Rattle.glob_syntax.proofs.lemmas.TokenMatches.{some_any, one_byte, begins_at}

module _ (a : List State) where
  -- ---- literals

  spelled_does : (o : Options) (bs : List ℕ) (s e : ℕ) → IsSpelled o a s bs e → Leads a s (spells o bs) e
  spelled_does o [] s e is = subst (Leads a s (spells o [])) is (leads_same a s s is_empty (spells o []) (λ y all. sym (spells_none o y)) (leads_none a s))
  spelled_does o (b ∷ bs) s e (t, read, rest) =
      leads_same a s e (both (spells o (b ∷ [])) (spells o bs)) (spells o (b ∷ bs)) (λ y all. sym (spells_more o b bs y))
      (leads_then a s t e (spells o (b ∷ [])) (spells o bs)
      (leads_same a s t (is_one_byte (is_letter o b)) (spells o (b ∷ [])) (λ y all. letter_is o b y) (leads_read a s t (is_letter o b) read))
      (spelled_does o bs t e rest))

  -- ---- `/`

  ends_same : (y : List ℕ) → ends_with slash y ≡ ends_with_slash y
  ends_same [] = refl
  ends_same (c ∷ []) = same_truth (slash == c) (c == slash) (λ h. subst (λ d. IsTrue (d == slash)) (eqb-true slash c h) refl, λ h. subst (λ d. IsTrue (slash == d)) (sym (eqb-true c slash h)) refl)
  ends_same (c ∷ d ∷ ds) = ends_same (d ∷ ds)

  to_slash_does : (o : Options) (s e : ℕ) → IsToSlash a s e → Leads a s (token_matches o RecursivePrefix) e
  to_slash_does o s e h = leads_same a s e (λ y. is_empty y || ends_with slash y) (token_matches o RecursivePrefix) (λ y all. ap (λ b. is_empty y || b) (ends_same y)) h

  suffix_is : (y : List ℕ) → IsTrue (both (is_one_byte is_slash) (list_all is_any_byte) y) ↔ IsTrue (begins_with_slash y)
  suffix_is y = (
    λ some. let (x, z, cut, pq) = cut_of (λ front back. is_one_byte is_slash front && list_all is_any_byte back) y some in
        let (c, single, has) = (one_byte is_slash x).1 (and_first (is_one_byte is_slash x) (list_all is_any_byte z) pq) in
        subst (λ l. IsTrue (begins_with_slash l)) (sym (cut ∙ ap (λ l. l ++ z) (single ∙ ap (λ u. u ∷ []) (eqb-true c slash has)))) refl,
    λ h. let (x, is) = begins_at y h in
        subst (λ l. IsTrue (both (is_one_byte is_slash) (list_all is_any_byte) l)) (sym is)
        (some_cut-append (λ front back. is_one_byte is_slash front && list_all is_any_byte back) (slash ∷ []) x (and_both true (list_all is_any_byte x) refl (any_all x))),
  )

  -- `/` alone, or anything between two of them
  between_is : (o : Options) (y : List ℕ) → IsTrue (both (is_one_byte is_slash) (token_matches o RecursivePrefix) y) ↔ IsTrue (token_matches o RecursiveZeroOrMore y)
  between_is o y = (
    λ some. let (x, z, cut, pq) = cut_of (λ front back. is_one_byte is_slash front && token_matches o RecursivePrefix back) y some in
        let (c, single, has) = (one_byte is_slash x).1 (and_first (is_one_byte is_slash x) (token_matches o RecursivePrefix z) pq) in
        subst (λ l. IsTrue (token_matches o RecursiveZeroOrMore l)) (sym (cut ∙ ap (λ l. l ++ z) (single ∙ ap (λ u. u ∷ []) (eqb-true c slash has))))
        (slashed z (and_second (is_one_byte is_slash x) (token_matches o RecursivePrefix z) pq)),
    λ h. let (x, is) = begins_at y (and_first (begins_with_slash y) (ends_with_slash y) h) in
        subst (λ l. IsTrue (both (is_one_byte is_slash) (token_matches o RecursivePrefix) l)) (sym is)
        (some_cut-append (λ front back. is_one_byte is_slash front && token_matches o RecursivePrefix back) (slash ∷ []) x
        (and_both true (token_matches o RecursivePrefix x) refl (rest x (subst (λ l. IsTrue (ends_with_slash l)) is (and_second (begins_with_slash y) (ends_with_slash y) h))))),
  )
    where
      slashed : (z : List ℕ) → IsTrue (is_empty z || ends_with_slash z) → IsTrue (ends_with_slash (slash ∷ z))
      slashed [] h = refl
      slashed (c ∷ cs) h = h

      rest : (x : List ℕ) → IsTrue (ends_with_slash (slash ∷ x)) → IsTrue (is_empty x || ends_with_slash x)
      rest [] h = refl
      rest (c ∷ cs) h = h

  -- ---- whole characters

  none_passes : (y : List ℕ) → is_empty y ≡ passes [] y
  none_passes [] = refl
  none_passes (c ∷ cs) = refl

  one_then : (test : ℕ → Bool) (tests : List (ℕ → Bool)) (y : List ℕ) → IsTrue (both (is_one_byte test) (passes tests) y) ↔ IsTrue (passes (test ∷ tests) y)
  one_then test tests y = (there, back y)
    where
      there : IsTrue (both (is_one_byte test) (passes tests) y) → IsTrue (passes (test ∷ tests) y)
      there some =
          let (x, z, cut, pq) = cut_of (λ front rest. is_one_byte test front && passes tests rest) y some in
          let (c, single, has) = (one_byte test x).1 (and_first (is_one_byte test x) (passes tests z) pq) in
          subst (λ l. IsTrue (passes (test ∷ tests) l)) (sym (cut ∙ ap (λ l. l ++ z) single))
          (and_both (passes tests z) (test c) (and_second (is_one_byte test x) (passes tests z) pq) has)

      back : (y : List ℕ) → IsTrue (passes (test ∷ tests) y) → IsTrue (both (is_one_byte test) (passes tests) y)
      back [] h = absurd (true≢false (sym h))
      back (c ∷ cs) h = some_cut-append (λ front rest. is_one_byte test front && passes tests rest) (c ∷ []) cs
          (and_both (test c) (passes tests cs) (and_second (passes tests cs) (test c) h) (and_first (passes tests cs) (test c) h))

  each_does : (tests : List (ℕ → Bool)) (s e : ℕ) → ReadsEach a s tests e → Leads a s (passes tests) e
  each_does [] s e is = subst (Leads a s (passes [])) is (leads_same a s s is_empty (passes []) (λ y all. none_passes y) (leads_none a s))
  each_does (test ∷ tests) s e (t, read, rest) =
      leads_iff a s e (both (is_one_byte test) (passes tests)) (passes (test ∷ tests)) (one_then test tests)
      (leads_then a s t e (is_one_byte test) (passes tests) (leads_read a s t test read) (each_does tests t e rest))

  -- from some of the states the automaton reads what passes some row
  abbrev RowsDo : List (List (ℕ → Bool)) → List ℕ → ℕ → ℕ → List ℕ → Type 0
  RowsDo rows ss e k w = ((t : ℕ) × HasNumber t ss × Accepts a k t w) ↔ ((y z : List ℕ) × (w ≡ y ++ z) × IsTrue (some_row rows y) × Accepts a k e z)

  row_more : (row : List (ℕ → Bool)) (rows : List (List (ℕ → Bool))) (s : ℕ) (ss : List ℕ) (e k : ℕ) (w : List ℕ) → AllBytes w
      → Leads a s (passes row) e → RowsDo rows ss e k w → RowsDo (row ∷ rows) (s ∷ ss) e k w
  row_more row rows s ss e k w bytes this others = (there, back)
    where
      there : ((t : ℕ) × HasNumber t (s ∷ ss) × Accepts a k t w) → (y z : List ℕ) × (w ≡ y ++ z) × IsTrue (some_row (row ∷ rows) y) × Accepts a k e z
      there (t, m, h) = ⊎_elim {C = (y z : List ℕ) × (w ≡ y ++ z) × IsTrue (some_row (row ∷ rows) y) × Accepts a k e z}
          (λ same. let (y, z, cut, p, after) = (this k w bytes).0 (subst (λ x. Accepts a k x w) same h) in (y, z, cut, or_first (passes row y) (some_row rows y) p, after))
          (λ other. let (y, z, cut, some, after) = others.0 (t, other, h) in (y, z, cut, or_second (passes row y) (some_row rows y) some, after))
          m

      back : ((y z : List ℕ) × (w ≡ y ++ z) × IsTrue (some_row (row ∷ rows) y) × Accepts a k e z) → (t : ℕ) × HasNumber t (s ∷ ss) × Accepts a k t w
      back (y, z, cut, h, after) = ⊎_elim {C = (t : ℕ) × HasNumber t (s ∷ ss) × Accepts a k t w}
          (λ here. (s, inl refl, (this k w bytes).1 (y, z, cut, here, after)))
          (λ later. let (t, m, rest) = others.1 (y, z, cut, later, after) in (t, inr m, rest))
          (or_either (passes row y) (some_row rows y) h)

  rows_do : (rows : List (List (ℕ → Bool))) (ss : List ℕ) (e : ℕ) → AreRead a ss rows e → (k : ℕ) (w : List ℕ) → AllBytes w → RowsDo rows ss e k w
  rows_do [] [] e is k w bytes = (λ (t, m, h). absurd m, λ (y, z, cut, some, after). absurd (true≢false (sym some)))
  rows_do [] (s ∷ ss) e is k w bytes = absurd is
  rows_do (row ∷ rows) [] e is k w bytes = absurd is
  rows_do (row ∷ rows) (s ∷ ss) e (first, rest) k w bytes = row_more row rows s ss e k w bytes (each_does row s e first) (rows_do rows ss e rest k w bytes)

  character_does : (o : Options) (s e : ℕ) → IsCharacter o a s e → Leads a s (is_wild_character o) e
  character_does o s e (ss, is, built) = leads_same a s e (some_row (wild_rows o)) (is_wild_character o) (λ y all. wild_rows_are o y)
      (λ k w bytes. let d = rows_do (wild_rows o) ss e built k w bytes in (λ h. d.0 (skips_goes a k s ss w is h), λ h. let (t, m, after) = d.1 h in by_skip s t w ss is m after))

  -- ---- groups

  group_does : (o : Options) (bs : Branches) (ss : List ℕ) (s e : ℕ) → state a s ≡ union_state ss
      → ((k : ℕ) (w : List ℕ) → AllBytes w → ((t : ℕ) × HasNumber t ss × Accepts a k t w) ↔ ((y z : List ℕ) × (w ≡ y ++ z) × IsTrue (token_matches o (Group bs) y) × Accepts a k e z))
      → Leads a s (token_matches o (Group bs)) e
  group_does o bs ss s e is all k w bytes = (λ h. (all k w bytes).0 (skips_goes a k s ss w is h), λ d. let (t, m, h) = (all k w bytes).1 d in by_skip s t w ss is m h)

  some_only : (o : Options) (bs : Branches) (y : List ℕ) → IsTrue (any_kept o bs) → IsTrue (token_matches o (Group bs) y) → IsTrue (some_branch_matches o bs y)
  some_only o bs y any h = ⊎_elim {C = IsTrue (some_branch_matches o bs y)}
      (λ some. some)
      (λ empty. absurd (true≢false (sym (and_first (not (any_kept o bs)) (is_empty y) empty) ∙ ap not any)))
      (or_either (some_branch_matches o bs y) (not (any_kept o bs) && is_empty y) h)

  none_matches : (o : Options) (bs : Branches) → any_kept o bs ≡ false → IsTrue (token_matches o (Group bs) [])
  none_matches o bs no_one = or_second (some_branch_matches o bs []) (not (any_kept o bs) && true) (and_both (not (any_kept o bs)) true (ap not no_one) refl)

  none_empty : (o : Options) (bs : Branches) (y : List ℕ) → any_kept o bs ≡ false → IsTrue (token_matches o (Group bs) y) → y ≡ []
  none_empty o bs y no_one h = ⊎_elim {C = y ≡ []}
      (λ some. absurd (true≢false (sym (some_any o bs y some) ∙ no_one)))
      (λ empty. empty_is y (and_second (not (any_kept o bs)) (is_empty y) empty))
      (or_either (some_branch_matches o bs y) (not (any_kept o bs) && is_empty y) h)

  abbrev BranchesDo : Options → Branches → List ℕ → ℕ → ℕ → List ℕ → Type 0
  BranchesDo o bs ss e k w = ((t : ℕ) × HasNumber t ss × Accepts a k t w) ↔ ((y z : List ℕ) × (w ≡ y ++ z) × IsTrue (some_branch_matches o bs y) × Accepts a k e z)

  branch_kept : (o : Options) (ts : Tokens) (bs : Branches) (ss us : List ℕ) (t e : ℕ) → IsTrue (is_kept o ts) → ss ≡ t ∷ us → (k : ℕ) (w : List ℕ) → AllBytes w
      → Leads a t (tokens_match_each o ts) e → BranchesDo o bs us e k w → BranchesDo o (branch ts bs) ss e k w
  branch_kept o ts bs ss us t e kept is k w bytes this others = (there, back)
    where
      there : ((v : ℕ) × HasNumber v ss × Accepts a k v w) → (y z : List ℕ) × (w ≡ y ++ z) × IsTrue (some_branch_matches o (branch ts bs) y) × Accepts a k e z
      there (v, m, h) = ⊎_elim {C = (y z : List ℕ) × (w ≡ y ++ z) × IsTrue (some_branch_matches o (branch ts bs) y) × Accepts a k e z}
          (λ same. let (y, z, cut, all, after) = (this k w bytes).0 (subst (λ x. Accepts a k x w) same h) in
          (y, z, cut, or_first (is_kept o ts && tokens_match_each o ts y) (some_branch_matches o bs y) (and_both (is_kept o ts) (tokens_match_each o ts y) kept all), after))
          (λ other. let (y, z, cut, some, after) = others.0 (v, other, h) in (y, z, cut, or_second (is_kept o ts && tokens_match_each o ts y) (some_branch_matches o bs y) some, after))
          (subst (HasNumber v) is m)

      back : ((y z : List ℕ) × (w ≡ y ++ z) × IsTrue (some_branch_matches o (branch ts bs) y) × Accepts a k e z) → (v : ℕ) × HasNumber v ss × Accepts a k v w
      back (y, z, cut, h, after) = ⊎_elim {C = (v : ℕ) × HasNumber v ss × Accepts a k v w}
          (λ here. (t, subst (HasNumber t) (sym is) (inl refl), (this k w bytes).1 (y, z, cut, and_second (is_kept o ts) (tokens_match_each o ts y) here, after)))
          (λ later. let (v, m, rest) = others.1 (y, z, cut, later, after) in (v, subst (HasNumber v) (sym is) (inr m), rest))
          (or_either (is_kept o ts && tokens_match_each o ts y) (some_branch_matches o bs y) h)

  branch_dropped : (o : Options) (ts : Tokens) (bs : Branches) (ss : List ℕ) (e : ℕ) → is_kept o ts ≡ false → (k : ℕ) (w : List ℕ) → BranchesDo o bs ss e k w → BranchesDo o (branch ts bs) ss e k w
  branch_dropped o ts bs ss e dropped k w others = (
    λ h. let (y, z, cut, some, after) = others.0 h in (y, z, cut, or_second (is_kept o ts && tokens_match_each o ts y) (some_branch_matches o bs y) some, after),
    λ (y, z, cut, h, after). ⊎_elim {C = (t : ℕ) × HasNumber t ss × Accepts a k t w}
        (λ here. absurd (true≢false (sym (and_first (is_kept o ts) (tokens_match_each o ts y) here) ∙ dropped)))
        (λ later. others.1 (y, z, cut, later, after))
        (or_either (is_kept o ts && tokens_match_each o ts y) (some_branch_matches o bs y) h),
  )

  -- ---- tokens

  mutual
    built_does : (o : Options) (ts : Tokens) (s e : ℕ) → IsBuilt o a s ts e → Leads a s (tokens_match_each o ts) e
    built_does o end s e is = subst (Leads a s is_empty) is (leads_none a s)
    built_does o (and_then t ts) s e (u, first, rest) = leads_then a s u e (token_matches o t) (tokens_match_each o ts) (token_does o t s u first) (built_does o ts u e rest)

    token_does : (o : Options) (t : Token) (s e : ℕ) → IsBuiltToken o a s t e → Leads a s (token_matches o t) e
    token_does o (Literal c) s e h = spelled_does o (encode_utf8 c) s e h
    token_does o Any s e (inl (on, h)) = leads_same a s e (is_wild_character o) (token_matches o Any) (λ y all. rw on refl) (character_does o s e h)
    token_does o Any s e (inr (off, h)) = leads_same a s e (is_one_byte (is_wild o)) (token_matches o Any) (λ y all. rw off refl) (leads_read a s e (is_wild o) h)
    token_does o ZeroOrMore s e h = leads_stay a s e (is_wild o) h
    token_does o RecursivePrefix s e h = to_slash_does o s e h
    token_does o RecursiveSuffix s e (t, first, second) =
        leads_iff a s e (both (is_one_byte is_slash) (list_all is_any_byte)) (token_matches o RecursiveSuffix) suffix_is
        (leads_then a s t e (is_one_byte is_slash) (list_all is_any_byte) (leads_read a s t is_slash first) (leads_stay a t e is_any_byte second))
    token_does o RecursiveZeroOrMore s e (t, first, second) =
        leads_iff a s e (both (is_one_byte is_slash) (token_matches o RecursivePrefix)) (token_matches o RecursiveZeroOrMore) (between_is o)
        (leads_then a s t e (is_one_byte is_slash) (token_matches o RecursivePrefix) (leads_read a s t is_slash first) (to_slash_does o t e second))
    token_does o (Class negated rs) s e h = leads_read a s e (class_has o negated rs) h
    token_does o (Group bs) s e (ss, is, inl (any, built)) = group_does o bs ss s e is (λ k w bytes.
        let d = branches_do o bs ss e built k w bytes in (
          λ h. let (y, z, cut, some, after) = d.0 h in (y, z, cut, or_first (some_branch_matches o bs y) _ some, after),
          λ (y, z, cut, some, after). d.1 (y, z, cut, some_only o bs y any some, after),
        ))
    token_does o (Group bs) s e (ss, is, inr (no_one, only)) = group_does o bs ss s e is (λ k w bytes. (
      λ (t, m, h). ([], w, refl, none_matches o bs no_one, (let there : t ≡ e = ⊎_elim {C = t ≡ e} (λ i. i) (λ no. absurd no) (subst (HasNumber t) only m) in subst (λ x. Accepts a k x w) there h)),
      λ (y, z, cut, some, after). (e, subst (HasNumber e) (sym only) (inl refl), subst (Accepts a k e) (sym (cut ∙ ap (λ l. l ++ z) (none_empty o bs y no_one some))) after),
    ))

    branches_do : (o : Options) (bs : Branches) (ss : List ℕ) (e : ℕ) → AreBuilt o a ss bs e → (k : ℕ) (w : List ℕ) → AllBytes w → BranchesDo o bs ss e k w
    branches_do o none ss e is k w bytes = (λ (t, m, h). absurd (subst (HasNumber t) is m), λ (y, z, cut, some, after). absurd (true≢false (sym some)))
    branches_do o (branch ts bs) ss e (inl (kept, (t, us, is, built, rest))) k w bytes =
        branch_kept o ts bs ss us t e kept is k w bytes (built_does o ts t e built) (branches_do o bs us e rest k w bytes)
    branches_do o (branch ts bs) ss e (inr (dropped, rest)) k w bytes = branch_dropped o ts bs ss e dropped k w (branches_do o bs ss e rest k w bytes)

  -- tokens whose states lead from s to an end of the index j
  pub tokens_accept : (o : Options) (ts : Tokens) (s e j k : ℕ) (b : List ℕ) → AllBytes b → IsBuilt o a s ts e → state a e ≡ match_state j → Accepts a k s b ↔ ((j ≡ k) × IsTrue (tokens_match_each o ts b))
  tokens_accept o ts s e j k b bytes built is = accepted a (tokens_match_each o ts) s e j k b bytes (built_does o ts s e built) is

  -- a state that stays on each byte, and leads to an end of the index j
  pub everything_accepts : (s e j k : ℕ) (b : List ℕ) → AllBytes b → Stays a s is_any_byte e → state a e ≡ match_state j → Accepts a k s b ↔ (j ≡ k)
  everything_accepts s e j k b bytes stay is =
      let both_are = accepted a (list_all is_any_byte) s e j k b bytes (leads_stay a s e is_any_byte stay) is in
      (λ h. (both_are.0 h).0, λ same. both_are.1 (same, any_all b))
