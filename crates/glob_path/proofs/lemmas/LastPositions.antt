-- The last position of a byte in a list.
use Rattle.std.proofs.Common.{◌≡◌, ◌≢◌, ℕ, zero, suc, ◌-◌, List, [], ◌∷◌, Bool, true, false, Option, Some, None, refl, ap, sym, true≢false, arith, length, take, drop, take_all, length-drop}
use Rattle.bstr.specs.Find.{IsLastByte}
use Rattle.glob_path.specs.PathParts.{with_first, last_position}

none : (o : Option ℕ) (b : Bool) → None ≡ o → b ≢ true → None ≡ with_first o b
none o true e n = absurd (n refl)
none o false e n = ap (λ q. with_first q false) e

here : (o : Option ℕ) (b : Bool) → None ≡ o → b ≡ true → Some 0 ≡ with_first o b
here o true e y = ap (λ q. with_first q true) e
here o false e y = absurd (true≢false (sym y))

pub neither : (o : Option ℕ) (b : Bool) → with_first o b ≡ None → (o ≡ None) × (b ≡ false)
neither (Some k) b h = absurd (cc)
neither None true h = absurd (cc)
neither None false h = (refl, refl)

-- a search for the last byte finds that position
pub last_position_found : (test : ℕ → Bool) (p : List ℕ) (r : Option ℕ) → IsLastByte test p r → r ≡ last_position test p
last_position_found test [] None h = refl
last_position_found test [] (Some k) h = absurd (omega (arith, h.0.high))
last_position_found test (x ∷ xs) None h =
    none _ (test x) (last_position_found test xs None (λ k lo hi y. h (suc k) (omega arith) (omega (arith, hi)) y)) (h 0 (omega arith) (omega arith))
last_position_found test (x ∷ xs) (Some zero) h =
    here _ (test x) (last_position_found test xs None (λ k lo hi y. h.0.after (suc k) (omega arith) (omega (arith, hi)) y)) h.1
last_position_found test (x ∷ xs) (Some (suc k)) h =
    ap (λ q. with_first q (test x)) (last_position_found test xs (Some k)
    (record { low = omega arith; high = omega (arith, h.0.high); after = λ j lo hi y. h.0.after (suc j) (omega (arith, lo)) (omega (arith, hi)) y }, h.1))

-- the value of `&p[k..]`
pub take_rest : (p : List ℕ) (k : ℕ) → take (length p - k) (drop k p) ≡ drop k p
take_rest p k = take_all _ (drop k p) (omega (arith, length-drop k p))
