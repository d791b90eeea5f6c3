-- Lists by their last element.
use Rattle.std.proofs.Common.{◌≡◌, ℕ, ◌-◌, ◌≤◌, suc, true, false, List, [], ◌∷◌, length, get_or, take, refl, sym, ◌∙◌, ap, arith}
use Rattle.std.proofs.lemmas.Bool.{eq-eqb, ne_eqb}
use Rattle.ignore_pattern.specs.Ends.{without_last}
use Rattle.bit_sets.specs.Texts.{ends_with}

-- the place of the last element, one further on
next_place : (n : ℕ) → suc (suc n) - 1 ≡ suc (suc n - 1)
next_place n = omega arith

last_next : (d x : ℕ) (xs : List ℕ) → get_or (d ∷ x ∷ xs) (length (d ∷ x ∷ xs) - 1) 0 ≡ get_or (x ∷ xs) (length (x ∷ xs) - 1) 0
last_next d x xs = ap (λ (k : ℕ). get_or (d ∷ x ∷ xs) k 0) (next_place (length xs))

front_next : (d x : ℕ) (xs : List ℕ) → take (length (d ∷ x ∷ xs) - 1) (d ∷ x ∷ xs) ≡ d ∷ take (length (x ∷ xs) - 1) (x ∷ xs)
front_next d x xs = ap (λ (k : ℕ). take k (d ∷ x ∷ xs)) (next_place (length xs))

-- the last element is `c`
pub last_is : (c : ℕ) (xs : List ℕ) → 1 ≤ length xs → c ≡ get_or xs (length xs - 1) 0 → (ends_with c xs ≡ true) × (without_last c xs ≡ take (length xs - 1) xs)
last_is c [] some e = absurd (omega arith)
last_is c (d ∷ []) some e = (eq-eqb c d e, rw (eq-eqb c d e) refl)
last_is c (d ∷ x ∷ xs) some e =
    let r = last_is c (x ∷ xs) (omega arith) (e ∙ last_next d x xs) in
    (r.0, ap (λ (l : List ℕ). d ∷ l) r.1 ∙ sym (front_next d x xs))

-- the last element is not `c`
pub last_is_not : (c : ℕ) (xs : List ℕ) → 1 ≤ length xs → (c ≡ get_or xs (length xs - 1) 0 → ⊥) → (ends_with c xs ≡ false) × (without_last c xs ≡ xs)
last_is_not c [] some e = absurd (omega arith)
last_is_not c (d ∷ []) some e = (ne_eqb c d e, rw (ne_eqb c d e) refl)
last_is_not c (d ∷ x ∷ xs) some e =
    let r = last_is_not c (x ∷ xs) (omega arith) (λ h. e (h ∙ sym (last_next d x xs))) in
    (r.0, ap (λ (l : List ℕ). d ∷ l) r.1)
