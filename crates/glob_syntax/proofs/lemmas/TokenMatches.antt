-- What tokens match, by how the bytes are put together.
use Rattle.std.proofs.Common.{◌≡◌, ℕ, Bool, true, true≢false, ◌&&◌, List, [], ◌∷◌, ◌++◌, IsTrue, refl, ap, sym, subst}
use Rattle.std.specs.Prelude.{◌↔◌}
use Rattle.std.proofs.lemmas.Bool.{eqb-true}
use Rattle.std.proofs.Math.Logic.{⊎_elim}
use Rattle.glob_syntax.specs.Token.{Branches, none, branch}
use Rattle.glob_syntax.specs.Blank.{is_kept, any_kept}
use Rattle.glob_syntax.specs.TokenMatches.{some_branch_matches, tokens_match_each, begins_with_slash, ends_with_slash, slash}
use Rattle.bit_sets.specs.Texts.{is_one_byte}
use Rattle.glob_syntax.specs.declared.options.Options.{Options}
use Rattle.bit_sets.proofs.lemmas.Booleans.{and_first, or_first, or_second, or_either}
use Rattle.bit_sets.proofs.lemmas.Cuts.{one_of}

-- one byte, of which the test holds
abbrev pub OneByte : (ℕ → Bool) → List ℕ → Type 0
OneByte test b = (c : ℕ) × (b ≡ c ∷ []) × IsTrue (test c)

-- one byte, as a test and as an equation
pub one_byte : (test : ℕ → Bool) (b : List ℕ) → OneByte test b ↔ IsTrue (is_one_byte test b)
one_byte test b = (λ (c, is, h). subst (λ l. IsTrue (is_one_byte test l)) (sym is) h, one_of test b)

-- ---- recursive stars

-- a list whose last byte is `/` ends with `/`
pub ends_push : (x : List ℕ) → IsTrue (ends_with_slash (x ++ slash ∷ []))
ends_push [] = refl
ends_push (c ∷ []) = refl
ends_push (c ∷ d ∷ ds) = ends_push (d ∷ ds)

-- and no other list does
pub ends_at : (b : List ℕ) → IsTrue (ends_with_slash b) → (x : List ℕ) × (b ≡ x ++ slash ∷ [])
ends_at [] h = absurd (true≢false (sym h))
ends_at (c ∷ []) h = ([], ap (λ d. d ∷ []) (eqb-true c slash h))
ends_at (c ∷ d ∷ ds) h = let (x, is) = ends_at (d ∷ ds) h in (c ∷ x, ap (λ l. c ∷ l) is)

-- a list begins with `/` if its first byte is `/`
pub begins_at : (b : List ℕ) → IsTrue (begins_with_slash b) → (x : List ℕ) × (b ≡ slash ∷ x)
begins_at [] h = absurd (true≢false (sym h))
begins_at (c ∷ cs) h = (cs, ap (λ d. d ∷ cs) (eqb-true c slash h))

-- ---- groups

-- what takes something is kept
pub some_any : (o : Options) (bs : Branches) (y : List ℕ) → IsTrue (some_branch_matches o bs y) → any_kept o bs ≡ true
some_any o none y h = absurd (true≢false (sym h))
some_any o (branch ts bs) y h = ⊎_elim {C = IsTrue (any_kept o (branch ts bs))}
    (λ here. or_first (is_kept o ts) (any_kept o bs) (and_first (is_kept o ts) (tokens_match_each o ts y) here))
    (λ later. or_second (is_kept o ts) (any_kept o bs) (some_any o bs y later))
    (or_either (is_kept o ts && tokens_match_each o ts y) (some_branch_matches o bs y) h)
