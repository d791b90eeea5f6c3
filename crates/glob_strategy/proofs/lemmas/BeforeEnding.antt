-- The tokens before an ending: which ones they are, and what they match.
use Rattle.std.proofs.Common.{◌≡◌, ℕ, zero, suc, Bool, true, false, true≢false, not, ◌-◌, ◌≤◌, ◌&&◌, List, [], ◌∷◌, ◌++◌, length, take, Some, None, refl, ap, sym, ◌∙◌, subst, arith}
use Rattle.std.specs.Prelude.{◌==◌, ◌↔◌, if◌then◌else◌}
use Rattle.std.specs.List.{list_any}
use Rattle.std.proofs.lemmas.Bool.{not-true, or_parts}
use Rattle.std.proofs.lemmas.List.{append_assoc, append_cancel_right, length-append, map-append}
use Rattle.std.proofs.Math.Seq.{take-append_seam}
use Rattle.glob_syntax.specs.declared.options.Options.{Options}
use Rattle.glob_syntax.specs.declared.token.Token as held
use Rattle.glob_syntax.specs.Token.{Token, Literal, Group, Tokens, end, and_then, Branches, none, branch, before}
use Rattle.glob_syntax.specs.Reading.{Levels, in_branch, in_level, open_level, next_branch, close_level, first_branch}
use Rattle.glob_syntax.specs.FlatTokens.{Flat, simple, opening, comma, closing, onto, levels_of, tree_of, Nests, IsNested}
use Rattle.glob_syntax.specs.Views.{flat_of, flats, tokens_of}
use Rattle.glob_syntax.specs.inner.Weight.{weight}
use Rattle.glob_syntax.proofs.lemmas.FlatTokens.{onto_append}
use Rattle.glob_syntax.specs.TokenMatches.{slash}
use Rattle.glob_syntax.specs.TokensMatch.{is_prefix, is_prefix_alone, tokens_match}
use Rattle.bit_sets.proofs.lemmas.Booleans.{and_both, and_first, and_second, and_none, same_truth}
use Rattle.bit_sets.proofs.lemmas.Cuts.{empty_is}
use Rattle.glob_syntax.proofs.lemmas.MatchesByParts.{AllMatch, then_matches}
use Rattle.glob_strategy.specs.Excluded.{is_dot}
use Rattle.glob_strategy.specs.TokenTests.{all_pass, some_all_pass, is_literal_except, literal_text, is_extension, ending}
use Rattle.glob_strategy.specs.Strategies.{before_ending, is_last_component}
use Rattle.glob_strategy.specs.inner.FlatTests as flat
use Rattle.glob_strategy.specs.inner.FlatTests.{EndsInExtension}
use Rattle.glob_strategy.proofs.lemmas.FlatTests.{AreSimple, is_plain, extension_simple, extension_same}
use Rattle.glob_strategy.proofs.lemmas.Excluded.{dot_is}
use Rattle.glob_strategy.proofs.lemmas.TokenMeaning.{extension_literals, literals_take, means_taken, no_ending}

-- ---- flat tokens before others

-- the levels of a whole glob with these tokens
abbrev pub whole : Tokens → Levels
whole ts = (branch ts none, [])

-- a branch with these levels inside it, from the inside out
abbrev pub around : List Branches → Branches → Levels
around [] b = (b, [])
around (x ∷ xs) b = (x, xs ++ b ∷ [])

-- Tokens before others, n groups deep: levels of their own, and some tokens before those of the others.
pub record Leads (n : ℕ) (ts : List Flat) : Type 0 where
  pub inner : List Branches
  pub front : List Token
  pub count : length inner ≡ n
  pub same : (us : Tokens) → onto ts (whole us) ≡ around inner (branch (before front us) none)

simple_leads : (n : ℕ) (t : Token) (ts : List Flat) (inner : List Branches) (front : List Token) → length inner ≡ n
    → ((us : Tokens) → onto ts (whole us) ≡ around inner (branch (before front us) none)) → Leads n (simple t ∷ ts)
simple_leads n t ts [] front e same = record { inner = []; front = t ∷ front; count = e; same = λ us. ap (in_level (t ∷ [])) (same us) }
simple_leads n t ts (x ∷ xs) front e same = record { inner = in_branch (t ∷ []) x ∷ xs; front = front; count = e; same = λ us. ap (in_level (t ∷ [])) (same us) }

opening_leads : (n : ℕ) (ts : List Flat) (inner : List Branches) (front : List Token) → length inner ≡ suc n
    → ((us : Tokens) → onto ts (whole us) ≡ around inner (branch (before front us) none)) → Leads n (opening ∷ ts)
opening_leads n ts [] front e same = absurd (omega (arith, e))
opening_leads n ts (x ∷ []) front e same = record { inner = []; front = Group x ∷ front; count = omega (arith, e); same = λ us. ap open_level (same us) }
opening_leads n ts (x ∷ (y ∷ ys)) front e same = record { inner = in_branch (Group x ∷ []) y ∷ ys; front = front; count = omega (arith, e); same = λ us. ap open_level (same us) }

comma_leads : (n : ℕ) (ts : List Flat) (inner : List Branches) (front : List Token) → length inner ≡ suc n
    → ((us : Tokens) → onto ts (whole us) ≡ around inner (branch (before front us) none)) → Leads (suc n) (comma ∷ ts)
comma_leads n ts [] front e same = absurd (omega (arith, e))
comma_leads n ts (x ∷ xs) front e same = record { inner = branch end x ∷ xs; front = front; count = e; same = λ us. ap next_branch (same us) }

closing_leads : (n : ℕ) (ts : List Flat) (inner : List Branches) (front : List Token) → length inner ≡ n
    → ((us : Tokens) → onto ts (whole us) ≡ around inner (branch (before front us) none)) → Leads (suc n) (closing ∷ ts)
closing_leads n ts [] front e same = record { inner = branch end none ∷ []; front = front; count = ap suc e; same = λ us. ap close_level (same us) }
closing_leads n ts (x ∷ xs) front e same = record { inner = branch end none ∷ (x ∷ xs); front = front; count = ap suc e; same = λ us. ap close_level (same us) }

leads : (n : ℕ) (ts : List Flat) → Nests n ts 0 → Leads n ts
leads n [] h = record { inner = []; front = []; count = sym h; same = λ us. refl }
leads n (simple t ∷ ts) h = let l = leads n ts h in simple_leads n t ts l.inner l.front l.count l.same
leads n (opening ∷ ts) h = let l = leads (suc n) ts h in opening_leads n ts l.inner l.front l.count l.same
leads zero (comma ∷ ts) h = absurd h
leads (suc n) (comma ∷ ts) h = let l = leads (suc n) ts h in comma_leads n ts l.inner l.front l.count l.same
leads zero (closing ∷ ts) h = absurd h
leads (suc n) (closing ∷ ts) h = let l = leads n ts h in closing_leads n ts l.inner l.front l.count l.same

-- tokens that nest put some tokens before those of others
abbrev StandsFor : List Flat → List Token → Type 0
StandsFor ts front = (us : Tokens) → onto ts (whole us) ≡ whole (before front us)

no_levels : (ts : List Flat) (inner : List Branches) (front : List Token) → length inner ≡ 0 → ((us : Tokens) → onto ts (whole us) ≡ around inner (branch (before front us) none)) → StandsFor ts front
no_levels ts [] front e same = same
no_levels ts (x ∷ xs) front e same = absurd (omega (arith, e))

stands_for : (ts : List Flat) → IsNested ts → (front : List Token) × StandsFor ts front
stands_for ts h = let l = leads 0 ts h in (l.front, no_levels ts l.inner l.front l.count l.same)

abbrev of_whole : Levels → Tokens
of_whole l = first_branch l.0

tree_whole : (ts : List Flat) → IsNested ts → levels_of ts ≡ whole (tree_of ts)
tree_whole ts h = let (front, same) = stands_for ts h in same end ∙ ap (λ l. whole (of_whole l)) (sym (same end))

-- tokens without groups
simple_nests : (ts : List Flat) → AreSimple ts → IsNested ts
simple_nests [] s = refl
simple_nests (simple t ∷ ts) s = simple_nests ts s.1
simple_nests (opening ∷ ts) s = absurd s.0
simple_nests (comma ∷ ts) s = absurd s.0
simple_nests (closing ∷ ts) s = absurd s.0

nests_simple : (n m : ℕ) (us : List Flat) → AreSimple us → Nests n us m → n ≡ m
nests_simple n m [] s h = h
nests_simple n m (simple t ∷ us) s h = nests_simple n m us s.1 h
nests_simple n m (opening ∷ us) s h = absurd s.0
nests_simple n m (comma ∷ us) s h = absurd s.0
nests_simple n m (closing ∷ us) s h = absurd s.0

nests_before : (n m : ℕ) (ts us : List Flat) → AreSimple us → Nests n (ts ++ us) m → Nests n ts m
nests_before n m [] us s h = nests_simple n m us s h
nests_before n m (simple t ∷ ts) us s h = nests_before n m ts us s h
nests_before n m (opening ∷ ts) us s h = nests_before (suc n) m ts us s h
nests_before zero m (comma ∷ ts) us s h = absurd h
nests_before (suc n) m (comma ∷ ts) us s h = nests_before (suc n) m ts us s h
nests_before zero m (closing ∷ ts) us s h = absurd h
nests_before (suc n) m (closing ∷ ts) us s h = nests_before n m ts us s h

-- ---- the tokens before an ending

-- an extension has a `.`, so no token before it begins one
not_plain : (front : List Token) (last : Tokens) → is_extension last ≡ true → all_pass is_plain (before front last) ≡ false
not_plain [] end h = absurd (true≢false (sym h))
not_plain [] (and_then t ts) h = ap (λ u. is_plain u && all_pass is_plain ts) (dot_is t (and_first (is_dot t) (all_pass is_plain ts) h))
not_plain (t ∷ front) last h = ap (λ b. is_plain t && b) (not_plain front last h) ∙ and_none (is_plain t)

cut_before : (front : List Token) (last : Tokens) → is_extension last ≡ true → before_ending (before front last) ≡ before front end
cut_before [] end h = absurd (true≢false (sym h))
cut_before [] (and_then t ts) h = ap (λ b. if b then end else and_then t (before_ending ts)) h
cut_before (t ∷ front) last h =
    ap (λ b. if b then end else and_then t (before_ending (before front last))) (ap (λ b. is_dot t && b) (not_plain front last h) ∙ and_none (is_dot t))
    ∙ ap (and_then t) (cut_before front last h)

flat_cut : (ts us : List Flat) → IsNested (ts ++ us) → flat.is_extension us ≡ true → (tree_of ts ≡ before_ending (tree_of (ts ++ us))) × IsNested ts
flat_cut ts us n h =
    let s = extension_simple us h in
    let last = simple_nests us s in
    let nested = nests_before 0 0 ts us s n in
    let (front, same) = stands_for ts nested in
    let all : tree_of (ts ++ us) ≡ before front (tree_of us) = ap of_whole (onto_append ts us (whole end) ∙ ap (onto ts) (tree_whole us last) ∙ same (tree_of us)) in
    (ap of_whole (same end) ∙ sym (ap before_ending all ∙ cut_before front (tree_of us) (sym (extension_same us last) ∙ h)), nested)

-- at the values that the program holds
pub tokens_cut : (ts last : List held.Token) → IsNested (flats ts) → EndsInExtension ts last
    → (tokens_of (take (length ts - length last) ts) ≡ before_ending (tokens_of ts)) × IsNested (flats (take (length ts - length last) ts))
tokens_cut ts last n e =
    let count : length ts - length last ≡ length e.before = let all = ap length e.cut in let parts = length-append e.before last in omega (arith, all, parts) in
    let front : take (length ts - length last) ts ≡ e.before = ap (λ k. take k ts) count ∙ ap (take (length e.before)) e.cut ∙ take-append_seam e.before last in
    let same : flats ts ≡ flats e.before ++ flats last = ap flats e.cut ∙ map-append flat_of e.before last in
    let r = flat_cut (flats e.before) (flats last) (subst IsNested same n) e.extension in
    (ap tokens_of front ∙ r.0 ∙ sym (ap (λ l. before_ending (tree_of l)) same), subst (λ l. IsNested (flats l)) (sym front) r.1)

-- tokens that do not end in an extension
pub no_ending_before : (ts : Tokens) → ending ts ≡ None → before_ending ts ≡ ts
no_ending_before end e = refl
no_ending_before (and_then t ts) e = by_case (λ later. no_ending_before ts later) (is_extension (and_then t ts)) refl
  where
    by_case : (ending ts ≡ None → before_ending ts ≡ ts) → (b : Bool) → is_extension (and_then t ts) ≡ b → before_ending (and_then t ts) ≡ and_then t ts
    by_case rest true h = absurd (let no : Some (literal_text (and_then t ts)) ≡ None = sym (ap (λ b. if b then Some (literal_text (and_then t ts)) else ending ts) h) ∙ e in cc)
    by_case rest false h =
        ap (λ b. if b then end else and_then t (before_ending ts)) h
        ∙ ap (and_then t) (rest (sym (ap (λ b. if b then Some (literal_text (and_then t ts)) else ending ts) h) ∙ e))

pub weight_before : (o : Options) (ts : Tokens) → weight o (before_ending ts) ≤ weight o ts
weight_before o end = omega arith
weight_before o (and_then t ts) = let rest = weight_before o ts in choice (is_extension (and_then t ts)) rest
  where
    choice : (b : Bool) → weight o (before_ending ts) ≤ weight o ts → weight o (if b then end else and_then t (before_ending ts)) ≤ weight o (and_then t ts)
    choice true rest = omega arith
    choice false rest = omega (arith, rest)

not_alone : (ts : Tokens) (k : List ℕ) → ending ts ≡ Some k → is_prefix_alone ts ≡ false
not_alone ts k e = by_case (is_prefix_alone ts) refl
  where
    by_case : (b : Bool) → is_prefix_alone ts ≡ b → b ≡ false
    by_case true h = absurd (let no : None ≡ Some k = sym (no_ending ts h) ∙ e in cc)
    by_case false h = refl

-- ---- what they match

-- tokens match what the ones before the ending match, and then the ending
cut_taken : (o : Options) (ts : Tokens) (b k : List ℕ) → o.case_insensitive ≡ false → ending ts ≡ Some k → AllMatch o ts b ↔ ((x : List ℕ) × (b ≡ x ++ k) × AllMatch o (before_ending ts) x)
cut_taken o end b k off e = absurd (cc)
cut_taken o (and_then t ts) b k off e = by_case (λ y later. cut_taken o ts y k off later) (is_extension (and_then t ts)) refl
  where
    by_case : ((y : List ℕ) → ending ts ≡ Some k → AllMatch o ts y ↔ ((x : List ℕ) × (y ≡ x ++ k) × AllMatch o (before_ending ts) x)) → (c : Bool) → is_extension (and_then t ts) ≡ c
        → AllMatch o (and_then t ts) b ↔ ((x : List ℕ) × (b ≡ x ++ k) × AllMatch o (if c then end else and_then t (before_ending ts)) x)
    by_case rest true is =
        let found : Some (literal_text (and_then t ts)) ≡ Some k = sym (ap (λ x. if x then Some (literal_text (and_then t ts)) else ending ts) is) ∙ e in
        let same : literal_text (and_then t ts) ≡ k = cc in
        let own = literals_take o [] (and_then t ts) b off (extension_literals (and_then t ts) is).1 in (
          λ all. ([], own.0 all ∙ same, refl),
          λ (x, cut, nil). own.1 (cut ∙ ap (λ l. l ++ k) (empty_is x nil) ∙ sym same),
        )
    by_case rest false is =
        let later : ending ts ≡ Some k = sym (ap (λ x. if x then Some (literal_text (and_then t ts)) else ending ts) is) ∙ e in (
          λ all.
              let (x, y, cut, p, q) = (then_matches o t ts b).1 all in
              let (z, at, r) = (rest y later).0 q in
              (x ++ z, cut ∙ ap (λ l. x ++ l) at ∙ sym (append_assoc x z k), (then_matches o t (before_ending ts) (x ++ z)).0 (x, z, refl, p, r)),
          λ (w, at, all).
              let (x, z, cut, p, q) = (then_matches o t (before_ending ts) w).1 all in
              (then_matches o t ts b).0 (x, z ++ k, at ∙ ap (λ l. l ++ k) cut ∙ append_assoc x z k, p, (rest (z ++ k) later).1 (z, refl, q)),
        )

and_true : (x y : Bool) → y ≡ true → (x && y) ≡ x
and_true true y h = h
and_true false y h = refl

-- an extension has no `/`
plain_no_slash : (ts : Tokens) → all_pass is_plain ts ≡ true → all_pass (is_literal_except (slash ∷ [])) ts ≡ true
plain_no_slash end h = refl
plain_no_slash (and_then (Literal c) ts) h =
    let here = and_first (is_plain (Literal c)) (all_pass is_plain ts) h in
    let other = (or_parts (46 == c) (list_any (λ d. d == c) (slash ∷ [])) (not-true (list_any (λ d. d == c) (46 ∷ slash ∷ [])) here)).1 in
    and_both (is_literal_except (slash ∷ []) (Literal c)) (all_pass (is_literal_except (slash ∷ [])) ts) (ap not other) (plain_no_slash ts (and_second (is_plain (Literal c)) (all_pass is_plain ts) h))
plain_no_slash (and_then t ts) h = absurd (true≢false (sym h))

extension_no_slash : (ts : Tokens) → is_extension ts ≡ true → some_all_pass (is_literal_except (slash ∷ [])) ts ≡ true
extension_no_slash end h = absurd (true≢false (sym h))
extension_no_slash (and_then t ts) h =
    let dot = dot_is t (and_first (is_dot t) (all_pass is_plain ts) h) in
    and_both (is_literal_except (slash ∷ []) t) (all_pass (is_literal_except (slash ∷ [])) ts) (ap (is_literal_except (slash ∷ [])) dot) (plain_no_slash ts (and_second (is_dot t) (all_pass is_plain ts) h))

-- RecursivePrefix is not alone before an ending, since another strategy would fit the glob
alone_before : (ts : Tokens) (k : List ℕ) → ending ts ≡ Some k → is_last_component ts ≡ false → is_prefix_alone (before_ending ts) ≡ false
alone_before end k e h = refl
alone_before (and_then t end) k e h = by_case (is_extension (and_then t end)) refl
  where
    by_case : (b : Bool) → is_extension (and_then t end) ≡ b → is_prefix_alone (if b then end else and_then t end) ≡ false
    by_case true is = refl
    by_case false is = absurd (let no : None ≡ Some k = sym (ap (λ b. if b then Some (literal_text (and_then t end)) else None) is) ∙ e in cc)
alone_before (and_then t (and_then u ts)) k e h = by_case (is_extension (and_then t (and_then u ts))) (is_extension (and_then u ts)) refl
  where
    by_case : (b c : Bool) → is_extension (and_then u ts) ≡ c → is_prefix_alone (if b then end else and_then t (if c then end else and_then u (before_ending ts))) ≡ false
    by_case true c is = refl
    by_case false true is = sym (and_true (is_prefix t) _ (extension_no_slash (and_then u ts) is)) ∙ h
    by_case false false is = refl

pub before_ending_means : (o : Options) (ts : Tokens) (b k front : List ℕ) → o.case_insensitive ≡ false → is_last_component ts ≡ false → ending ts ≡ Some k → front ++ k ≡ b
    → tokens_match o ts b ≡ tokens_match o (before_ending ts) front
before_ending_means o ts b k front off other e at =
    let all = means_taken o ts b (not_alone ts k e) in
    let some = means_taken o (before_ending ts) front (alone_before ts k e other) in
    let cut = cut_taken o ts b k off e in
    same_truth (tokens_match o ts b) (tokens_match o (before_ending ts) front) (
      λ yes. let (x, is, taken) = cut.0 (all.0 yes) in some.1 (subst (AllMatch o (before_ending ts)) (append_cancel_right x front k (sym is ∙ sym at)) taken),
      λ yes. all.1 (cut.1 (front, sym at, some.0 yes)),
    )
