-- Different trees are written as different lists.
use Rattle.std.proofs.Common.{◌≡◌, ℕ, List, [], ◌∷◌, refl, ap, arith}
use base.Stored.{Gv, gnum, gnil, gcons}
use Rattle.byte_nfa.specs.Steps.{NfaValue}
use Rattle.byte_nfa.specs.contracts.nfa.Nfa as Nfa
use Rattle.engine.specs.inner.Numbers.{flat, numbers}

abbrev hd : List ℕ → ℕ
hd [] = 0
hd (x ∷ xs) = x

abbrev tl : List ℕ → List ℕ
tl [] = []
tl (x ∷ xs) = xs

two : (a b c d : Gv) → a ≡ c → b ≡ d → gcons a b ≡ gcons c d
two a b c d p q = rw p (rw q refl)

pub flat-inj : (a b : Gv) (xs ys : List ℕ) → flat a xs ≡ flat b ys → (a ≡ b) × (xs ≡ ys)
flat-inj gnil gnil xs ys e = (refl, ap tl e)
flat-inj gnil (gnum n) xs ys e = absurd (omega (arith, ap hd e))
flat-inj gnil (gcons c d) xs ys e = absurd (omega (arith, ap hd e))
flat-inj (gnum m) gnil xs ys e = absurd (omega (arith, ap hd e))
flat-inj (gnum m) (gnum n) xs ys e = (ap gnum (ap (λ l. hd (tl l)) e), ap (λ l. tl (tl l)) e)
flat-inj (gnum m) (gcons c d) xs ys e = absurd (omega (arith, ap hd e))
flat-inj (gcons a b) gnil xs ys e = absurd (omega (arith, ap hd e))
flat-inj (gcons a b) (gnum n) xs ys e = absurd (omega (arith, ap hd e))
flat-inj (gcons a b) (gcons c d) xs ys e =
    let first = flat-inj a c (flat b xs) (flat d ys) (ap tl e) in
    let second = flat-inj b d xs ys first.1 in
    (two a b c d first.0 second.0, second.1)

pub numbers-inj : (x y : NfaValue) → numbers x ≡ numbers y → x ≡ y
numbers-inj x y e = Nfa.the_row.coded.inj x y (flat-inj (Nfa.the_row.coded.code x) (Nfa.the_row.coded.code y) [] [] e).0
