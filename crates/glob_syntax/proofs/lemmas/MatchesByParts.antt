-- What tokens match, by how the bytes are put together.
use Rattle.std.proofs.Common.{◌≡◌, ℕ, ◌⊎◌, inl, inr, true≢false, ◌&&◌, List, [], ◌∷◌, ◌++◌, IsTrue, refl, ap, sym, subst}
use Rattle.std.specs.Prelude.{◌==◌, ◌↔◌}
use Rattle.std.specs.Str.{bytes_eq}
use Rattle.std.proofs.lemmas.Slice.Eq.{bytes_eq-Decides}
use Rattle.std.proofs.lemmas.Bool.{eqb-true}
use Rattle.std.proofs.Math.Logic.{⊎_elim}
use Rattle.glob_syntax.specs.Token.{Token, RecursivePrefix, RecursiveSuffix, RecursiveZeroOrMore, Tokens, and_then}
use Rattle.glob_syntax.specs.TokenMatches.{token_matches, tokens_match_each, begins_with_slash, ends_with_slash, slash}
use Rattle.bit_sets.specs.Texts.{is_empty}
use Rattle.glob_syntax.specs.declared.options.Options.{Options}
use Rattle.bit_sets.proofs.lemmas.Booleans.{and_both, and_first, and_second, or_first, or_second, or_either}
use Rattle.glob_syntax.proofs.lemmas.TokenMatches.{ends_push, ends_at, begins_at}
use Rattle.bit_sets.proofs.lemmas.Cuts.{cut_of, some_cut-append, empty_is}

-- the token matches the bytes
abbrev pub TokenMatches : Options → Token → List ℕ → Type 0
TokenMatches o t b = IsTrue (token_matches o t b)

-- the tokens match the bytes, one after another
abbrev pub AllMatch : Options → Tokens → List ℕ → Type 0
AllMatch o ts b = IsTrue (tokens_match_each o ts b)

-- the list can be cut in two, so that P holds of the first part and Q of the second
abbrev pub Then : (List ℕ → Type 0) → (List ℕ → Type 0) → List ℕ → Type 0
Then P Q b = (x y : List ℕ) × (b ≡ x ++ y) × P x × Q y

-- empty, as a test and as an equation
pub empty_same : (b : List ℕ) → (b ≡ []) ↔ IsTrue (is_empty b)
empty_same b = (λ nil. ap is_empty nil, empty_is b)

-- equal, as a test and as an equation
pub equal_bytes : (x y : List ℕ) → (x ≡ y) ↔ IsTrue (bytes_eq x y)
equal_bytes x y = ((bytes_eq-Decides x y).1, (bytes_eq-Decides x y).0)

-- ---- recursive stars

pub prefix_matches : (o : Options) (b : List ℕ) → ((b ≡ []) ⊎ ((x : List ℕ) × (b ≡ x ++ slash ∷ []))) ↔ TokenMatches o RecursivePrefix b
prefix_matches o b = (
  λ h. ⊎_elim {C = TokenMatches o RecursivePrefix b}
      (λ nil. or_first (is_empty b) (ends_with_slash b) (ap is_empty nil))
      (λ (x, is). or_second (is_empty b) (ends_with_slash b) (subst (λ l. IsTrue (ends_with_slash l)) (sym is) (ends_push x)))
      h,
  λ h. ⊎_elim {C = (b ≡ []) ⊎ ((x : List ℕ) × (b ≡ x ++ slash ∷ []))} (λ empty. inl (empty_is b empty)) (λ ends. inr (ends_at b ends)) (or_either (is_empty b) (ends_with_slash b) h),
)

pub suffix_matches : (o : Options) (b : List ℕ) → ((x : List ℕ) × (b ≡ slash ∷ x)) ↔ TokenMatches o RecursiveSuffix b
suffix_matches o b = (λ (x, is). ap begins_with_slash is, begins_at b)

-- both: one `/`, or two with any bytes between them
between_at : (b : List ℕ) → IsTrue (begins_with_slash b && ends_with_slash b) → (b ≡ slash ∷ []) ⊎ ((x : List ℕ) × (b ≡ slash ∷ (x ++ slash ∷ [])))
between_at [] h = absurd (true≢false (sym h))
between_at (c ∷ []) h = inl (ap (λ d. d ∷ []) (eqb-true c slash (and_first (c == slash) (c == slash) h)))
between_at (c ∷ d ∷ ds) h =
    let (x, is) = ends_at (d ∷ ds) (and_second (c == slash) (ends_with_slash (d ∷ ds)) h) in
    inr (x, (λ i. eqb-true c slash (and_first (c == slash) (ends_with_slash (d ∷ ds)) h) i ∷ is i))

pub between_matches : (o : Options) (b : List ℕ) → ((b ≡ slash ∷ []) ⊎ ((x : List ℕ) × (b ≡ slash ∷ (x ++ slash ∷ [])))) ↔ TokenMatches o RecursiveZeroOrMore b
between_matches o b = (
  λ h. ⊎_elim {C = TokenMatches o RecursiveZeroOrMore b}
      (λ is. subst (TokenMatches o RecursiveZeroOrMore) (sym is) refl)
      (λ (x, is). subst (TokenMatches o RecursiveZeroOrMore) (sym is) (ends_push (slash ∷ x)))
      h,
  between_at b,
)

-- ---- tokens one after another

-- a token and then others
pub then_matches : (o : Options) (t : Token) (ts : Tokens) (b : List ℕ) → Then (TokenMatches o t) (AllMatch o ts) b ↔ AllMatch o (and_then t ts) b
then_matches o t ts b = (there, back)
  where
    there : Then (TokenMatches o t) (AllMatch o ts) b → AllMatch o (and_then t ts) b
    there (x, y, cut, p, q) = subst (AllMatch o (and_then t ts)) (sym cut) (some_cut-append (λ x y. token_matches o t x && tokens_match_each o ts y) x y (and_both (token_matches o t x) (tokens_match_each o ts y) p q))

    back : AllMatch o (and_then t ts) b → Then (TokenMatches o t) (AllMatch o ts) b
    back h = let (x, y, cut, both) = cut_of (λ x y. token_matches o t x && tokens_match_each o ts y) b h in (x, y, cut, and_first (token_matches o t x) (tokens_match_each o ts y) both, and_second (token_matches o t x) (tokens_match_each o ts y) both)
