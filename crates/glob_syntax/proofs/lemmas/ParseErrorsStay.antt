-- An error that more text cannot remove stays when more text follows.
--
-- This is shown by induction on the text. Its first lexeme stays the same when more text follows, except for a class that no
-- `]` closes and for a run of stars at the end. The error of such a class is a bad range, which stays the first one of a
-- longer body. After such a run the text has no lasting error.
use Rattle.std.proofs.Common.{◌≡◌, ℕ, zero, suc, ◌+◌, ◌-◌, ◌≤◌, ◌<◌, List, [], ◌∷◌, ◌++◌, Bool, true, false, not, ◌&&◌, ◌==◌, Option, Some, None, Result, Ok, Err, take, drop, length, cond, refl, sym, ap, subst, ◌∙◌, arith, ltb-true, length-append}
use Rattle.std.specs.Prelude.{nat_lt}
use Rattle.std.specs.List.{prefix_len, position_or_len}
use Rattle.std.proofs.lemmas.List.{take-append-le, drop_all}
use Rattle.std.proofs.lemmas.Bool.{ltb-false, lt-ltb}
use Rattle.std.proofs.Math.Seq.{take-append-add}
use Rattle.glob_syntax.specs.declared.options.Options.{Options}
use Rattle.glob_syntax.specs.declared.parse_error_kind.ParseErrorKind.{ParseErrorKind}
use Rattle.glob_syntax.specs.declared.parse_error_kind.ParseErrorKind.TheVariants.{InvalidRange, UnclosedClass, UnclosedAlternates, DanglingEscape}
use Rattle.glob_syntax.specs.Ranges.{is_hyphen, bad_chain, bad_after_hyphen, ranges, bad_range}
use Rattle.glob_syntax.specs.Lexemes.{Lexeme, Char, One, Stars, Class, Open, Comma, Close, Bad, is_closer, is_negated, members, class_lexeme, unclosed_lexeme, class_at, escape_at, star_run, lexeme_at, lexemes}
use Rattle.glob_syntax.specs.Nesting.{nested_lexeme, with_lexeme, nested}
use Rattle.glob_syntax.specs.Reading.{whole_or_parse_error, reading}
use Rattle.glob_syntax.specs.Laws.{is_lasting, ParseErrorsStay}
use Rattle.glob_syntax.proofs.lemmas.Lexemes.{lexemes_skip}
use Rattle.glob_syntax.proofs.lemmas.Nesting.{step, nested_step}

-- ---- bodies of classes

abbrev chain_by : ℕ → ℕ → List ℕ → Bool → Option ParseErrorKind
chain_by first c cs b = elim b [ true ↦ bad_after_hyphen first cs | false ↦ bad_chain c cs ]

abbrev after_hyphen_by : ℕ → ℕ → List ℕ → Bool → Option ParseErrorKind
after_hyphen_by first c cs b = elim b [ true ↦ Some (InvalidRange first c) | false ↦ bad_chain first cs ]

mutual
  -- the first bad range of a body is that of a longer one
  bad_chain_stays : (first : ℕ) (cs more : List ℕ) (f : ParseErrorKind) → bad_chain first cs ≡ Some f → bad_chain first (cs ++ more) ≡ Some f
  bad_chain_stays first [] more f h = absurd cc
  bad_chain_stays first (c ∷ cs) more f h = elim (is_hyphen c) as (λ b. chain_by first c cs b ≡ Some f → chain_by first c (cs ++ more) b ≡ Some f) [
    | true ↦ λ g. bad_after_hyphen_stays first cs more f g
    | false ↦ λ g. bad_chain_stays c cs more f g
  ] h

  bad_after_hyphen_stays : (first : ℕ) (cs more : List ℕ) (f : ParseErrorKind) → bad_after_hyphen first cs ≡ Some f → bad_after_hyphen first (cs ++ more) ≡ Some f
  bad_after_hyphen_stays first [] more f h = absurd cc
  bad_after_hyphen_stays first (c ∷ cs) more f h = elim (nat_lt c first) as (λ b. after_hyphen_by first c cs b ≡ Some f → after_hyphen_by first c (cs ++ more) b ≡ Some f) [
    | true ↦ λ g. g
    | false ↦ λ g. bad_chain_stays first cs more f g
  ] h

bad_range_stays : (cs more : List ℕ) (f : ParseErrorKind) → bad_range cs ≡ Some f → bad_range (cs ++ more) ≡ Some f
unfolding bad_range
bad_range_stays [] more f h = absurd cc
bad_range_stays (c ∷ cs) more f h = bad_chain_stays c cs more f h

-- ---- where a class or a run of stars ends

-- how many characters at the front pass a test, with more text
prefix_within : (p : ℕ → Bool) (cs more : List ℕ) → prefix_len p cs < length cs → prefix_len p (cs ++ more) ≡ prefix_len p cs
prefix_within p [] more h = absurd (omega arith)
prefix_within p (c ∷ cs) more h = elim (p c) as (λ b. cond b (1 + prefix_len p cs) 0 < length (c ∷ cs) → cond b (1 + prefix_len p (cs ++ more)) 0 ≡ cond b (1 + prefix_len p cs) 0) [
  | true ↦ λ g. let e : prefix_len p cs < length cs = omega arith in ap (λ n. 1 + n) (prefix_within p cs more e)
  | false ↦ λ g. refl
] h

prefix_grows : (p : ℕ → Bool) (cs more : List ℕ) → prefix_len p cs ≤ prefix_len p (cs ++ more)
prefix_grows p [] more = omega arith
prefix_grows p (c ∷ cs) more = elim (p c) as (λ b. cond b (1 + prefix_len p cs) 0 ≤ cond b (1 + prefix_len p (cs ++ more)) 0) [
  | true ↦ omega (arith, prefix_grows p cs more)
  | false ↦ omega arith
]

take_beyond : (n : ℕ) (cs more : List ℕ) → length cs ≤ n → take n (cs ++ more) ≡ cs ++ take (n - length cs) more
take_beyond n cs more h =
    let e : n ≡ length cs + (n - length cs) = omega arith in
    ap (λ k. take k (cs ++ more)) e ∙ take-append-add cs more (n - length cs)

-- how many members a class has, by whether a `]` follows its first one, after k characters
abbrev count_by : ℕ → Bool → Option ℕ
count_by k b = let r : Option ℕ = cond b (Some k) None in elim r [ None ↦ None | Some n ↦ Some (n + 1) ]

count_some : (k n : ℕ) (b : Bool) → count_by k b ≡ Some n → (b ≡ true) × (n ≡ k + 1)
count_some k n true h = (refl, cc)
count_some k n false h = absurd cc

count_none : (k : ℕ) (b : Bool) → count_by k b ≡ None → b ≡ false
count_none k true h = absurd cc
count_none k false h = refl

-- a closed class ends where it did
members_within : (c n : ℕ) (cs more : List ℕ) → members (c ∷ cs) ≡ Some n → (n ≤ length (c ∷ cs)) × (members (c ∷ cs ++ more) ≡ Some n)
members_within c n cs more h =
    let k = position_or_len is_closer cs in
    let found = count_some k n (nat_lt k (length cs)) h in
    let inside : k < length cs = ltb-true k (length cs) found.0 in
    let there : position_or_len is_closer (cs ++ more) ≡ k = prefix_within (λ x. not (is_closer x)) cs more inside in
    let below : nat_lt k (length (cs ++ more)) ≡ true = lt-ltb k (length (cs ++ more)) (simp length-append (omega arith)) in
    let counted : Some (k + 1) ≡ Some n = ap Some (sym found.1) in
    (omega (arith, found.1), ap (λ j. count_by j (nat_lt j (length (cs ++ more)))) there ∙ ap (count_by k) below ∙ counted)

-- the body of a class that only more text closes begins with all of the text
members_beyond : (c n : ℕ) (cs more : List ℕ) → members (c ∷ cs) ≡ None → members (c ∷ cs ++ more) ≡ Some n → take n (c ∷ cs ++ more) ≡ (c ∷ cs) ++ take (n - length (c ∷ cs)) more
members_beyond c n cs more h g =
    let k = position_or_len is_closer cs in
    let j = position_or_len is_closer (cs ++ more) in
    let past : length cs ≤ k = ltb-false k (length cs) (count_none k (nat_lt k (length cs)) h) in
    let found = count_some j n (nat_lt j (length (cs ++ more))) g in
    let grows : k ≤ j = prefix_grows (λ x. not (is_closer x)) cs more in
    take_beyond n (c ∷ cs) more (omega (arith, found.1))

-- ---- one lexeme

-- what holds of both branches of two tests with the same outcome
both_ways : (b : Bool) (x y z w : Lexeme × ℕ) (P : Lexeme × ℕ → Lexeme × ℕ → Type 0) → (b ≡ true → P x z) → (b ≡ false → P y w) → P (cond b x y) (cond b z w)
both_ways true x y z w P s t = s refl
both_ways false x y z w P s t = t refl

err_under : {f : ParseErrorKind} (m : Lexeme) (r : Result (List Lexeme) ParseErrorKind) → with_lexeme m r ≡ Err f → r ≡ Err f
err_under m (Ok ms) h = absurd cc
err_under m (Err e) h = h

-- the lexemes of a class, by the first bad range of its body, and by how many members it has
abbrev no_class : Option ParseErrorKind → Lexeme
no_class r = elim r [ None ↦ Bad UnclosedClass | Some f ↦ Bad f ]

abbrev body_lexeme : Bool → List ℕ → Option ParseErrorKind → Lexeme
body_lexeme negated body r = elim r [ None ↦ Class negated (ranges body) | Some f ↦ Bad f ]

abbrev class_by : Options → ℕ → Bool → List ℕ → Option ℕ → Lexeme × ℕ
class_by o skipped negated cs r = elim r [ None ↦ (unclosed_lexeme o cs, 0) | Some n ↦ (class_lexeme negated (take n cs), skipped + n + 1) ]

abbrev bracket_at : Options → List ℕ → Lexeme × ℕ
bracket_at o cs = cond (is_negated cs) (class_at o 1 true (drop 1 cs)) (class_at o 0 false cs)

module _ (o : Options) (f : ParseErrorKind) (lasting : is_lasting f ≡ true) (more : List ℕ) where
  -- if f is the first error of a text whose first lexeme is p, it is that of the longer text too, whose first lexeme is q
  abbrev KeepsError : List ℕ → Lexeme × ℕ → Lexeme × ℕ → Type 0
  KeepsError cs p q = (d : ℕ) → nested d (p.0 ∷ lexemes o p.1 cs) ≡ Err f → nested d (q.0 ∷ lexemes o q.1 (cs ++ more)) ≡ Err f

  with_err : (m : Lexeme) (r s : Result (List Lexeme) ParseErrorKind) → (r ≡ Err f → s ≡ Err f) → with_lexeme m r ≡ Err f → with_lexeme m s ≡ Err f
  with_err m (Ok ms) s g h = absurd cc
  with_err m (Err e) s g h = ap (with_lexeme m) (g h)

  after_step : (s : Result (ℕ × Lexeme) ParseErrorKind) (ms ns : List Lexeme) → ((d : ℕ) → nested d ms ≡ Err f → nested d ns ≡ Err f) → step s ms ≡ Err f → step s ns ≡ Err f
  after_step (Err e) ms ns deep h = h
  after_step (Ok x) ms ns deep h = with_err x.1 (nested x.0 ms) (nested x.0 ns) (deep x.0) h

  -- the same lexeme
  same : (cs : List ℕ) (p : Lexeme × ℕ) → ((n d : ℕ) → nested d (lexemes o n cs) ≡ Err f → nested d (lexemes o n (cs ++ more)) ≡ Err f) → KeepsError cs p p
  same cs p deep d h =
      nested_step d p.0 (lexemes o p.1 (cs ++ more)) ∙ after_step (nested_lexeme d p.0) (lexemes o p.1 cs) (lexemes o p.1 (cs ++ more)) (deep p.1) (sym (nested_step d p.0 (lexemes o p.1 cs)) ∙ h)

  -- the same error
  same_fault : (cs : List ℕ) (e : ParseErrorKind) (n k : ℕ) → KeepsError cs (Bad e, n) (Bad e, k)
  unfolding nested
  same_fault cs e n k d h = h

  -- an error that is not lasting
  mended : (cs : List ℕ) (e : ParseErrorKind) (n : ℕ) (q : Lexeme × ℕ) → is_lasting e ≡ false → KeepsError cs (Bad e, n) q
  unfolding nested
  mended cs e n q g d h = let i : e ≡ f = cc in let j = ap is_lasting i in absurd cc

  -- the end of a text is no lasting error
  no_end : (d : ℕ) → nested d [] ≡ Err f → ⊥
  unfolding nested
  no_end zero h = cc
  no_end (suc d) h = let i : UnclosedAlternates ≡ f = cc in let j = ap is_lasting i in absurd cc

  -- a run of stars to the end of the text
  last_stars : (cs : List ℕ) (k n : ℕ) (q : Lexeme × ℕ) → length cs ≤ n → KeepsError cs (Stars k, n) q
  unfolding nested lexemes
  last_stars cs k n q h d g =
      let none_left : lexemes o n cs ≡ [] = lexemes_skip o n cs ∙ ap (lexemes o zero) (drop_all n cs h) in
      absurd (no_end d (err_under (Stars k) (nested d []) (sym (ap (λ ms. nested d (Stars k ∷ ms)) none_left) ∙ g)))

  -- any run of stars
  stars : (cs : List ℕ) (p : ℕ → Bool) → ((n d : ℕ) → nested d (lexemes o n cs) ≡ Err f → nested d (lexemes o n (cs ++ more)) ≡ Err f) → KeepsError cs (star_run (prefix_len p cs)) (star_run (prefix_len p (cs ++ more)))
  stars cs p deep = by (nat_lt (prefix_len p cs) (length cs)) refl
    where
      by : (b : Bool) → nat_lt (prefix_len p cs) (length cs) ≡ b → KeepsError cs (star_run (prefix_len p cs)) (star_run (prefix_len p (cs ++ more)))
      by true h =
          let e = prefix_within p cs more (ltb-true (prefix_len p cs) (length cs) h) in
          subst (λ n. KeepsError cs (star_run (prefix_len p cs)) (star_run n)) (sym e) (same cs (star_run (prefix_len p cs)) deep)
      by false h = last_stars cs (suc (prefix_len p cs)) (prefix_len p cs) (star_run (prefix_len p (cs ++ more))) (ltb-false (prefix_len p cs) (length cs) h)

  module _ (closed_only : o.allow_unclosed_class ≡ false) (whole : List ℕ) (skipped : ℕ) (negated : Bool) where
    -- a `[` that no `]` closes, by the first bad range of what follows
    unclosed_is : (cs : List ℕ) (r : Option ParseErrorKind) → bad_range cs ≡ r → unclosed_lexeme o cs ≡ no_class r
    unclosed_is cs r h = ap (λ b. elim b [ true ↦ Char false 91 | false ↦ no_class (bad_range cs) ]) closed_only ∙ ap no_class h

    -- the lexeme of the longer text, where the body has a bad range
    beyond : (c : ℕ) (cs : List ℕ) (e : ParseErrorKind) (s : Option ℕ) → bad_range (c ∷ cs) ≡ Some e → members (c ∷ cs) ≡ None → members (c ∷ cs ++ more) ≡ s → KeepsError whole (Bad e, 0) (class_by o skipped negated (c ∷ cs ++ more) s)
    beyond c cs e None bad unclosed_here still =
        let m : unclosed_lexeme o (c ∷ cs ++ more) ≡ Bad e = unclosed_is (c ∷ cs ++ more) (Some e) (bad_range_stays (c ∷ cs) more e bad) in
        subst (λ x. KeepsError whole (Bad e, 0) (x, 0)) (sym m) (same_fault whole e 0 0)
    beyond c cs e (Some n) bad unclosed_here closes =
        let body : take n (c ∷ cs ++ more) ≡ (c ∷ cs) ++ take (n - length (c ∷ cs)) more = members_beyond c n cs more unclosed_here closes in
        let m : class_lexeme negated (take n (c ∷ cs ++ more)) ≡ Bad e = ap (class_lexeme negated) body ∙ ap (body_lexeme negated ((c ∷ cs) ++ take (n - length (c ∷ cs)) more)) (bad_range_stays (c ∷ cs) (take (n - length (c ∷ cs)) more) e bad) in
        subst (λ x. KeepsError whole (Bad e, 0) (x, skipped + n + 1)) (sym m) (same_fault whole e 0 (skipped + n + 1))

    unclosed : (c : ℕ) (cs : List ℕ) (r : Option ParseErrorKind) → bad_range (c ∷ cs) ≡ r → members (c ∷ cs) ≡ None → KeepsError whole (no_class r, 0) (class_at o skipped negated (c ∷ cs ++ more))
    unclosed c cs None bad unclosed_here = mended whole UnclosedClass 0 (class_at o skipped negated (c ∷ cs ++ more)) refl
    unclosed c cs (Some e) bad unclosed_here = beyond c cs e (members (c ∷ cs ++ more)) bad unclosed_here refl

    -- a class with a member
    class : (c : ℕ) (cs : List ℕ) (r : Option ℕ) → members (c ∷ cs) ≡ r → ((n d : ℕ) → nested d (lexemes o n whole) ≡ Err f → nested d (lexemes o n (whole ++ more)) ≡ Err f)
        → KeepsError whole (class_by o skipped negated (c ∷ cs) r) (class_at o skipped negated (c ∷ cs ++ more))
    class c cs None h deep =
        subst (λ x. KeepsError whole (x, 0) (class_at o skipped negated (c ∷ cs ++ more))) (sym (unclosed_is (c ∷ cs) (bad_range (c ∷ cs)) refl)) (unclosed c cs (bad_range (c ∷ cs)) refl h)
    class c cs (Some n) h deep =
        let there = members_within c n cs more h in
        let body : take n (c ∷ cs ++ more) ≡ take n (c ∷ cs) = take-append-le n (c ∷ cs) more there.0 in
        let q : class_at o skipped negated (c ∷ cs ++ more) ≡ (class_lexeme negated (take n (c ∷ cs)), skipped + n + 1) =
        ap (class_by o skipped negated (c ∷ cs ++ more)) there.1 ∙ ap (λ b. (class_lexeme negated b, skipped + n + 1)) body in
        subst (λ x. KeepsError whole (class_lexeme negated (take n (c ∷ cs)), skipped + n + 1) x) (sym q) (same whole (class_lexeme negated (take n (c ∷ cs)), skipped + n + 1) deep)

    -- a `[`, and perhaps a negation, at the end of the text
    class_at_end : (q : Lexeme × ℕ) → KeepsError whole (class_at o skipped negated []) q
    unfolding bad_range
    class_at_end q = subst (λ x. KeepsError whole (x, 0) q) (sym (unclosed_is [] None refl)) (mended whole UnclosedClass 0 q refl)

    any_class : (cs : List ℕ) → ((n d : ℕ) → nested d (lexemes o n whole) ≡ Err f → nested d (lexemes o n (whole ++ more)) ≡ Err f) → KeepsError whole (class_at o skipped negated cs) (class_at o skipped negated (cs ++ more))
    any_class [] deep = class_at_end (class_at o skipped negated more)
    any_class (c ∷ cs) deep = class c cs (members (c ∷ cs)) refl deep

  -- a `[`
  bracket : (cs : List ℕ) → o.allow_unclosed_class ≡ false → ((n d : ℕ) → nested d (lexemes o n cs) ≡ Err f → nested d (lexemes o n (cs ++ more)) ≡ Err f)
      → KeepsError cs (bracket_at o cs) (bracket_at o (cs ++ more))
  bracket [] closed_only deep = class_at_end closed_only [] 0 false (bracket_at o more)
  bracket (c ∷ cs) closed_only deep =
      both_ways (is_negated (c ∷ cs)) _ _ _ _ (KeepsError (c ∷ cs)) (λ e. any_class closed_only (c ∷ cs) 1 true cs deep) (λ e. any_class closed_only (c ∷ cs) 0 false (c ∷ cs) deep)

  -- a `\` that escapes
  escape : (cs : List ℕ) → ((n d : ℕ) → nested d (lexemes o n cs) ≡ Err f → nested d (lexemes o n (cs ++ more)) ≡ Err f) → KeepsError cs (escape_at cs) (escape_at (cs ++ more))
  escape [] deep = mended [] DanglingEscape 0 (escape_at more) refl
  escape (c ∷ cs) deep = same (c ∷ cs) (Char true c, 1) deep

  -- any lexeme
  lexeme : (c : ℕ) (cs : List ℕ) → o.allow_unclosed_class ≡ false → ((n d : ℕ) → nested d (lexemes o n cs) ≡ Err f → nested d (lexemes o n (cs ++ more)) ≡ Err f)
      → KeepsError cs (lexeme_at o c cs) (lexeme_at o c (cs ++ more))
  unfolding lexeme_at
  lexeme c cs closed_only deep =
      both_ways (c == 63) _ _ _ _ (KeepsError cs) (λ e. same cs (One, 0) deep)
      (λ e1. both_ways (c == 42) _ _ _ _ (KeepsError cs) (λ e. stars cs (λ d. d == 42) deep)
      (λ e2. both_ways (c == 91) _ _ _ _ (KeepsError cs) (λ e. bracket cs closed_only deep)
      (λ e3. both_ways (c == 123) _ _ _ _ (KeepsError cs) (λ e. same cs (Open, 0) deep)
      (λ e4. both_ways (c == 125) _ _ _ _ (KeepsError cs) (λ e. same cs (Close, 0) deep)
      (λ e5. both_ways (c == 44) _ _ _ _ (KeepsError cs) (λ e. same cs (Comma, 0) deep)
      (λ e6. both_ways (c == 92 && o.backslash_escape) _ _ _ _ (KeepsError cs) (λ e. escape cs deep) (λ e. same cs (Char false c, 0) deep)))))))

  -- ---- texts

  -- the error of a text is that of the longer text
  text : (cs : List ℕ) → o.allow_unclosed_class ≡ false → (n d : ℕ) → nested d (lexemes o n cs) ≡ Err f → nested d (lexemes o n (cs ++ more)) ≡ Err f
  unfolding lexemes
  text [] closed_only n d h = absurd (no_end d h)
  text (c ∷ cs) closed_only (suc n) d h = text cs closed_only n d h
  text (c ∷ cs) closed_only zero d h = lexeme c cs closed_only (text cs closed_only) d h

fault_of : (r : Result (List Lexeme) ParseErrorKind) (f : ParseErrorKind) → whole_or_parse_error r ≡ Err f → r ≡ Err f
fault_of (Ok ms) f h = absurd cc
fault_of (Err e) f h = let i : e ≡ f = cc in ap (λ x. Err x) i

-- the law
pub parse_errors_stay : ParseErrorsStay
unfolding reading
parse_errors_stay o cs more f closed_only lasting h = ap whole_or_parse_error (text o f lasting more cs closed_only zero zero (fault_of (nested zero (lexemes o zero cs)) f h))
