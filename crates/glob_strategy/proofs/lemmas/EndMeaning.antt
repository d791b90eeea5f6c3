-- Which paths tokens match of which a key at the end or the beginning of a path decides.
use Rattle.std.proofs.Common.{◌≡◌, ℕ, ◌⊎◌, inl, inr, Bool, true, false, true≢false, not, ◌&&◌, ◌||◌, List, [], ◌∷◌, ◌++◌, IsTrue, refl, ap, sym, ◌∙◌, subst}
use Rattle.std.specs.Prelude.{◌↔◌, encode_utf8}
use Rattle.std.proofs.Math.Logic.{⊎_elim}
use Rattle.std.proofs.lemmas.Bool.{not-true}
use Rattle.std.proofs.lemmas.List.{append-nil, append_assoc}
use Rattle.glob_syntax.specs.declared.options.Options.{Options}
use Rattle.glob_syntax.specs.Token.{Token, Literal, ZeroOrMore, RecursivePrefix, RecursiveSuffix, Tokens, end, and_then}
use Rattle.glob_syntax.specs.TokenMatches.{slash}
use Rattle.glob_syntax.specs.TokensMatch.{is_prefix, is_prefix_alone, tokens_match}
use Rattle.bit_sets.proofs.lemmas.Booleans.{and_first, and_second, or_either, iff_trans}
use Rattle.bit_sets.proofs.lemmas.Cuts.{empty_is}
use Rattle.glob_syntax.proofs.lemmas.TokenLists.{prefix_is, alone_is}
use Rattle.glob_syntax.proofs.lemmas.MatchesByParts.{TokenMatches, AllMatch, suffix_matches, then_matches}
use Rattle.glob_strategy.specs.TokenTests.{is_star, is_suffix, has_tokens, are_literals, first_and_rest, literals_and_last, literal_text, is_whole_path, is_last_components, is_star_literals, is_end, is_beginning, is_below_folder}
use Rattle.glob_strategy.proofs.lemmas.TokenMeaning.{literal_is, literals_take, means_taken, more_after, no_prefix, after_component, by_first, star_is, star_matches, star_literals_take}

-- ---- last components

abbrev EndsWithComponents : Options → List ℕ → Tokens → Type 0
EndsWithComponents o b ts = IsTrue (tokens_match o ts b) ↔ ((b ≡ literal_text ts) ⊎ ((front : List ℕ) × (front ++ slash ∷ literal_text ts ≡ b)))

pub last_components_means : (o : Options) (b : List ℕ) → o.case_insensitive ≡ false → (ts : Tokens) → is_last_components ts ≡ true → EndsWithComponents o b ts
last_components_means o b off = by_first (EndsWithComponents o b) is_prefix RecursivePrefix is_whole_path prefix_is (λ us h.
    let t : List ℕ = literal_text us in
    let literals : are_literals us ≡ true = and_second (has_tokens us) (are_literals us) h in
    iff_trans (means_taken o (and_then RecursivePrefix us) b (more_after RecursivePrefix us (and_first (has_tokens us) (are_literals us) h))) (
      λ p.
          let (x, y, cut, ends, q) = (after_component o us b).0 p in
          let same : y ≡ t = (literals_take o [] us y off literals).0 q in
          ⊎_elim {C = (b ≡ t) ⊎ ((front : List ℕ) × (front ++ slash ∷ t ≡ b))}
          (λ none. inl (cut ∙ (λ i. none i ++ same i)))
          (λ (z, is). inr (z, sym (cut ∙ (λ i. is i ++ same i) ∙ append_assoc z (slash ∷ []) t))) ends,
      λ e. ⊎_elim {C = AllMatch o (and_then RecursivePrefix us) b}
          (λ is. (after_component o us b).1 ([], b, refl, inl refl, (literals_take o [] us b off literals).1 is))
          (λ (z, is). (after_component o us b).1 (z ++ slash ∷ [], t, sym is ∙ sym (append_assoc z (slash ∷ []) t), inr (z, refl), (literals_take o [] us t off literals).1 refl)) e,
    ))

-- ---- ends

abbrev EndsWithText : Options → List ℕ → Tokens → Type 0
EndsWithText o b ts = IsTrue (tokens_match o ts b) ↔ ((front : List ℕ) × (front ++ literal_text ts ≡ b))

star_literals_means : (o : Options) (b : List ℕ) → o.case_insensitive ≡ false → o.literal_separator ≡ false → (ts : Tokens) → is_star_literals ts ≡ true → EndsWithText o b ts
star_literals_means o b off all = by_first (EndsWithText o b) is_star ZeroOrMore are_literals star_is (λ us h.
    iff_trans (means_taken o (and_then ZeroOrMore us) b (no_prefix ZeroOrMore us refl)) (
      λ p. let (x, is, q) = (star_literals_take o b off us h).0 p in (x, sym is),
      λ (x, is). (star_literals_take o b off us h).1 (x, sym is, star_matches o x all),
    ))

prefix_star_literals_means : (o : Options) (b : List ℕ) → o.case_insensitive ≡ false → o.literal_separator ≡ false → (us : Tokens) → are_literals us ≡ true
    → EndsWithText o b (and_then RecursivePrefix (and_then ZeroOrMore us))
prefix_star_literals_means o b off all us h = iff_trans (means_taken o (and_then RecursivePrefix (and_then ZeroOrMore us)) b refl) (
  λ p.
      let (x, y, cut, ends, q) = (after_component o (and_then ZeroOrMore us) b).0 p in
      let (w, is, r) = (star_literals_take o y off us h).0 q in
      (x ++ w, sym (cut ∙ ap (λ l. x ++ l) is ∙ sym (append_assoc x w (literal_text us)))),
  λ (x, is). (after_component o (and_then ZeroOrMore us) b).1 ([], b, refl, inl refl, (star_literals_take o b off us h).1 (x, sym is, star_matches o x all)),
)

pub end_means : (o : Options) (b : List ℕ) → o.case_insensitive ≡ false → (ts : Tokens) → is_end o ts ≡ true → EndsWithText o b ts
end_means o b off ts h = ⊎_elim {C = EndsWithText o b ts}
    (by_first (EndsWithText o b) is_prefix RecursivePrefix is_star_literals prefix_is
    (by_first (λ us. EndsWithText o b (and_then RecursivePrefix us)) is_star ZeroOrMore are_literals star_is (prefix_star_literals_means o b off all)) ts)
    (star_literals_means o b off all ts)
    (or_either (first_and_rest is_prefix is_star_literals ts) (is_star_literals ts) (and_second (not o.literal_separator) either h))
  where
    either : Bool
    either = first_and_rest is_prefix is_star_literals ts || is_star_literals ts

    all : o.literal_separator ≡ false
    all = not-true o.literal_separator (and_first (not o.literal_separator) either h)

-- ---- beginnings

-- literals, and one last token of which there is only one kind
literals_last_take : (o : Options) → o.case_insensitive ≡ false → (test : Token → Bool) (last : Token) → ((t : Token) → test t ≡ true → t ≡ last) → literal_text (and_then last end) ≡ []
    → (ts : Tokens) (b : List ℕ) → literals_and_last test ts ≡ true → AllMatch o ts b ↔ ((y : List ℕ) × (literal_text ts ++ y ≡ b) × TokenMatches o last y)
literals_last_take o off test last is empty end b h = absurd (true≢false (sym h))
literals_last_take o off test last is empty (and_then t end) b h =
    subst (λ u. AllMatch o (and_then u end) b ↔ ((y : List ℕ) × (literal_text (and_then u end) ++ y ≡ b) × TokenMatches o last y)) (sym (is t h)) (
      λ p.
          let (x, y, cut, q, r) = (then_matches o last end b).1 p in
          let whole : b ≡ x = cut ∙ ap (λ l. x ++ l) (empty_is y r) ∙ append-nil x in
          (x, ap (λ l. l ++ x) empty ∙ sym whole, q),
      λ (y, e, q). (then_matches o last end b).0 (y, [], sym e ∙ ap (λ l. l ++ y) empty ∙ sym (append-nil y), q, refl),
    )
literals_last_take o off test last is empty (and_then (Literal c) (and_then u us)) b h =
    let t : List ℕ = literal_text (and_then u us) in (
      λ p.
          let (x, y, cut, q, r) = (then_matches o (Literal c) (and_then u us) b).1 p in
          let same : x ≡ encode_utf8 c = (literal_is o c x off).1 q in
          let (z, e, s) = (literals_last_take o off test last is empty (and_then u us) y h).0 r in
          (z, append_assoc (encode_utf8 c) t z ∙ (λ i. sym same i ++ e i) ∙ sym cut, s),
      λ (z, e, s).
          (then_matches o (Literal c) (and_then u us) b).0
          (encode_utf8 c, t ++ z, sym e ∙ append_assoc (encode_utf8 c) t z, (literal_is o c (encode_utf8 c) off).0 refl, (literals_last_take o off test last is empty (and_then u us) (t ++ z) h).1 (z, refl, s)),
    )
literals_last_take o off test last is empty (and_then t (and_then u us)) b h = absurd (true≢false (sym h))

last_no_prefix : (test : Token → Bool) → ((t : Token) → test t ≡ true → is_prefix t ≡ false) → (ts : Tokens) → literals_and_last test ts ≡ true → is_prefix_alone ts ≡ false
last_no_prefix test other end h = refl
last_no_prefix test other (and_then t end) h = other t h
last_no_prefix test other (and_then t (and_then u us)) h = refl

suffix_is : (t : Token) → is_suffix t ≡ true → t ≡ RecursiveSuffix
suffix_is RecursiveSuffix h = refl
suffix_is t h = absurd (true≢false (sym h))

abbrev BeginsWithText : Options → List ℕ → Tokens → Type 0
BeginsWithText o b ts = IsTrue (tokens_match o ts b) ↔ ((rest : List ℕ) × (literal_text ts ++ rest ≡ b))

prefix_alone_means : (o : Options) (b : List ℕ) (ts : Tokens) → is_prefix_alone ts ≡ true → BeginsWithText o b ts
prefix_alone_means o b ts h = subst (BeginsWithText o b) (sym (alone_is ts h)) (λ p. (b, refl), λ p. refl)

literals_star_means : (o : Options) (b : List ℕ) → o.case_insensitive ≡ false → o.literal_separator ≡ false → (ts : Tokens) → literals_and_last is_star ts ≡ true → BeginsWithText o b ts
literals_star_means o b off all ts h =
    let taken = literals_last_take o off is_star ZeroOrMore star_is refl ts b h in
    iff_trans (means_taken o ts b (last_no_prefix is_star (λ t e. ap is_prefix (star_is t e)) ts h))
    (λ p. let (y, e, q) = taken.0 p in (y, e), λ (y, e). taken.1 (y, e, star_matches o y all))

pub beginning_means : (o : Options) (b : List ℕ) → o.case_insensitive ≡ false → (ts : Tokens) → is_beginning o ts ≡ true → BeginsWithText o b ts
beginning_means o b off ts h = ⊎_elim {C = BeginsWithText o b ts}
    (prefix_alone_means o b ts)
    (λ both. literals_star_means o b off (not-true o.literal_separator (and_first (not o.literal_separator) (literals_and_last is_star ts) both)) ts (and_second (not o.literal_separator) (literals_and_last is_star ts) both))
    (or_either (is_prefix_alone ts) (not o.literal_separator && literals_and_last is_star ts) h)

pub below_folder_means : (o : Options) (b : List ℕ) → o.case_insensitive ≡ false → (ts : Tokens) → is_below_folder ts ≡ true
    → IsTrue (tokens_match o ts b) ↔ ((rest : List ℕ) × ((literal_text ts ++ slash ∷ []) ++ rest ≡ b))
below_folder_means o b off ts h =
    let t : List ℕ = literal_text ts in
    let taken = literals_last_take o off is_suffix RecursiveSuffix suffix_is refl ts b h in
    iff_trans (means_taken o ts b (last_no_prefix is_suffix (λ u e. ap is_prefix (suffix_is u e)) ts h)) (
      λ p.
          let (y, e, q) = taken.0 p in
          let (z, is) = (suffix_matches o y).1 q in
          (z, append_assoc t (slash ∷ []) z ∙ ap (λ l. t ++ l) (sym is) ∙ e),
      λ (z, e). taken.1 (slash ∷ z, sym (append_assoc t (slash ∷ []) z) ∙ e, (suffix_matches o (slash ∷ z)).0 (z, refl)),
    )
