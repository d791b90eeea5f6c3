-- What the bytes of a literal match, byte by byte.
use Rattle.std.proofs.Common.{◌≡◌, ℕ, Bool, true, false, true≢false, ◌&&◌, List, [], ◌∷◌, ◌++◌, IsTrue, refl, ap, sym, ◌∙◌}
use Rattle.std.specs.Prelude.{◌==◌, if◌then◌else◌}
use Rattle.std.specs.Char.{to_ascii_lowercase}
use Rattle.glob_syntax.specs.declared.options.Options.{Options}
use Rattle.glob_syntax.specs.TokenMatches.{compared}
use Rattle.bit_sets.specs.Texts.{is_empty, is_one_byte}
use Rattle.glob_strategy.specs.inner.TokenStates.{spells, is_letter}
use Rattle.bit_sets.proofs.lemmas.Booleans.{and_none, and_first, and_second, and_both, same_truth}
use Rattle.bit_sets.proofs.lemmas.Cuts.{both, cut_of, some_cut-append}

-- what is compared of one byte
folded : Options → ℕ → ℕ
folded o c = if o.case_insensitive then to_ascii_lowercase c else c

compared-cons : (o : Options) (c : ℕ) (cs : List ℕ) → compared o (c ∷ cs) ≡ folded o c ∷ compared o cs
unfolding folded
compared-cons o c cs = by_case o.case_insensitive refl
  where
    by_case : (q : Bool) → o.case_insensitive ≡ q → compared o (c ∷ cs) ≡ folded o c ∷ compared o cs
    by_case true e = rw e refl
    by_case false e = rw e refl

compared-none : (o : Options) → compared o [] ≡ []
compared-none o = by_case o.case_insensitive refl
  where
    by_case : (q : Bool) → o.case_insensitive ≡ q → compared o [] ≡ []
    by_case true e = rw e refl
    by_case false e = rw e refl

spells-cons : (o : Options) (c d : ℕ) (cs ds : List ℕ) → spells o (c ∷ cs) (d ∷ ds) ≡ ((folded o d == folded o c) && spells o cs ds)
spells-cons o c d cs ds = rw (compared-cons o c cs, compared-cons o d ds) refl

spells-past : (o : Options) (c : ℕ) (cs : List ℕ) → spells o (c ∷ cs) [] ≡ false
spells-past o c cs = rw (compared-cons o c cs, compared-none o) refl

pub spells_none : (o : Options) (y : List ℕ) → spells o [] y ≡ is_empty y
spells_none o [] = rw (compared-none o) refl
spells_none o (d ∷ ds) = rw (compared-none o, compared-cons o d ds) refl

-- one byte, and then the others
pub spells_more : (o : Options) (c : ℕ) (cs y : List ℕ) → spells o (c ∷ cs) y ≡ both (spells o (c ∷ [])) (spells o cs) y
spells_more o c cs y = same_truth (spells o (c ∷ cs) y) (both (spells o (c ∷ [])) (spells o cs) y) (there y, back)
  where
    there : (y : List ℕ) → IsTrue (spells o (c ∷ cs) y) → IsTrue (both (spells o (c ∷ [])) (spells o cs) y)
    there [] h = absurd (true≢false (sym h ∙ spells-past o c cs))
    there (d ∷ ds) h =
        let h' = sym (spells-cons o c d cs ds) ∙ h in
        let first : IsTrue (spells o (c ∷ []) (d ∷ [])) =
        spells-cons o c d [] [] ∙ and_both (folded o d == folded o c) (spells o [] []) (and_first (folded o d == folded o c) (spells o cs ds) h') (spells_none o []) in
        some_cut-append (λ front rest. spells o (c ∷ []) front && spells o cs rest) (d ∷ []) ds
        (and_both (spells o (c ∷ []) (d ∷ [])) (spells o cs ds) first (and_second (folded o d == folded o c) (spells o cs ds) h'))

    of_cut : (front rest : List ℕ) → IsTrue (spells o (c ∷ []) front) → IsTrue (spells o cs rest) → IsTrue (spells o (c ∷ cs) (front ++ rest))
    of_cut [] rest p q = absurd (true≢false (sym p ∙ spells-past o c []))
    of_cut (d ∷ []) rest p q =
        spells-cons o c d cs rest ∙ and_both (folded o d == folded o c) (spells o cs rest) (and_first (folded o d == folded o c) (spells o [] []) (sym (spells-cons o c d [] []) ∙ p)) q
    of_cut (d ∷ e ∷ es) rest p q =
        absurd (true≢false (sym (and_second (folded o d == folded o c) (spells o [] (e ∷ es)) (sym (spells-cons o c d [] (e ∷ es)) ∙ p)) ∙ spells_none o (e ∷ es)))

    back : IsTrue (both (spells o (c ∷ [])) (spells o cs) y) → IsTrue (spells o (c ∷ cs) y)
    back h =
        let (front, rest, cut, pq) = cut_of (λ front rest. spells o (c ∷ []) front && spells o cs rest) y h in
        ap (spells o (c ∷ cs)) cut ∙ of_cut front rest (and_first (spells o (c ∷ []) front) (spells o cs rest) pq) (and_second (spells o (c ∷ []) front) (spells o cs rest) pq)

-- one byte alone
pub letter_is : (o : Options) (b : ℕ) (y : List ℕ) → is_one_byte (is_letter o b) y ≡ spells o (b ∷ []) y
letter_is o b [] = sym (spells-past o b [])
letter_is o b (c ∷ []) = refl
letter_is o b (c ∷ d ∷ ds) = sym (spells-cons o b c [] (d ∷ ds) ∙ ap (λ t. (folded o c == folded o b) && t) (spells_none o (d ∷ ds)) ∙ and_none (folded o c == folded o b))
