-- Lists of bytes cut in two, and those of a single byte.
use Rattle.std.proofs.Common.{◌≡◌, ℕ, ◌-◌, ◌≤◌, Bool, true≢false, ◌&&◌, List, [], ◌∷◌, ◌++◌, length, get_or, take, drop, IsTrue, refl, ap, sym, arith}
use Rattle.std.proofs.lemmas.List.{take_all}
use Rattle.std.proofs.Math.Logic.{⊎_elim}
use Rattle.std.proofs.lemmas.Bool.{eqb-true, eq-eqb}
use Rattle.bit_sets.specs.Texts.{ends_with, is_empty, is_one_byte, some_cut}
use Rattle.bit_sets.proofs.lemmas.Booleans.{or_first, or_second, or_either}

pub empty_is : (y : List ℕ) → IsTrue (is_empty y) → y ≡ []
empty_is [] h = refl
empty_is (c ∷ cs) h = absurd (true≢false (sym h))

pub one_of : (test : ℕ → Bool) (b : List ℕ) → IsTrue (is_one_byte test b) → (c : ℕ) × (b ≡ c ∷ []) × IsTrue (test c)
one_of test [] h = absurd (true≢false (sym h))
one_of test (c ∷ []) h = (c, refl, h)
one_of test (c ∷ d ∷ ds) h = absurd (true≢false (sym h))

-- where some cut passes, there is one
pub cut_of : (test : List ℕ → List ℕ → Bool) (b : List ℕ) → IsTrue (some_cut test b) → (x y : List ℕ) × (b ≡ x ++ y) × IsTrue (test x y)
cut_of test [] h = ([], [], refl, h)
cut_of test (c ∷ cs) h =
    ⊎_elim {C = (x y : List ℕ) × (c ∷ cs ≡ x ++ y) × IsTrue (test x y)}
    (λ here. ([], c ∷ cs, refl, here))
    (λ later. let r = cut_of (λ front back. test (c ∷ front) back) cs later in (c ∷ r.0, r.1, ap (λ l. c ∷ l) r.2, r.3))
    (or_either (test [] (c ∷ cs)) (some_cut (λ front back. test (c ∷ front) back) cs) h)

pub some_cut-append : (test : List ℕ → List ℕ → Bool) (x y : List ℕ) → IsTrue (test x y) → IsTrue (some_cut test (x ++ y))
some_cut-append test [] [] h = h
some_cut-append test [] (c ∷ cs) h = or_first (test [] (c ∷ cs)) (some_cut (λ front back. test (c ∷ front) back) cs) h
some_cut-append test (c ∷ cs) y h =
    or_second (test [] (c ∷ (cs ++ y))) (some_cut (λ front back. test (c ∷ front) back) (cs ++ y)) (some_cut-append (λ front back. test (c ∷ front) back) cs y h)

-- a part that passes P, and then one that passes Q
abbrev pub both : (List ℕ → Bool) → (List ℕ → Bool) → List ℕ → Bool
both P Q y = some_cut (λ front back. P front && Q back) y

-- ---- the first item, as the pattern `[x, rest @ ..]` has it

pub head_cell : {A : Type 0} (xs : List A) (d : A) → 1 ≤ length xs → xs ≡ get_or xs 0 d ∷ take (length xs - 1) (drop 1 xs)
head_cell [] d h = absurd (omega arith)
head_cell (y ∷ ys) d h = ap (λ l. y ∷ l) (sym (take_all (length (y ∷ ys) - 1) ys (omega arith)))

-- ---- the last byte

pub ends_push : (c : ℕ) (x : List ℕ) → IsTrue (ends_with c (x ++ c ∷ []))
ends_push c [] = eq-eqb c c refl
ends_push c (d ∷ []) = eq-eqb c c refl
ends_push c (d ∷ e ∷ es) = ends_push c (e ∷ es)

pub ends_at : (c : ℕ) (b : List ℕ) → IsTrue (ends_with c b) → (x : List ℕ) × (b ≡ x ++ c ∷ [])
ends_at c [] h = absurd (true≢false (sym h))
ends_at c (d ∷ []) h = ([], ap (λ e. e ∷ []) (sym (eqb-true c d h)))
ends_at c (d ∷ e ∷ es) h = let (x, is) = ends_at c (e ∷ es) h in (d ∷ x, ap (λ l. d ∷ l) is)
