-- Numbers joined by commas.
use Rattle.std.proofs.Common.{◌≡◌, ℕ, ◌+◌, ◌<◌, ◌≤◌, List, [], ◌∷◌, ◌++◌, length, take, get_or, ap, ◌∙◌, sym, append_assoc, append-nil, refl, map, decimal, arith, length-take}
use Rattle.std.specs.List.{join_with_byte}
use Rattle.std.proofs.lemmas.List.{take_more, map-append}

-- one more piece after some
join-more : (c : ℕ) (y x : List ℕ) (ys : List (List ℕ)) → join_with_byte c ((y ∷ ys) ++ x ∷ []) ≡ join_with_byte c (y ∷ ys) ++ (c ∷ x)
join-more c y x [] = refl
join-more c y x (z ∷ zs) = ap (λ (l : List ℕ). y ++ (c ∷ l)) (join-more c z x zs) ∙ sym (append_assoc y (c ∷ join_with_byte c (z ∷ zs)) (c ∷ x))

-- One more number after those of `p`. `output'` is `output`, with a comma where the number is not the first.
joined_next : (p : List ℕ) (x : ℕ) (start output output' : List ℕ) → output ≡ start ++ join_with_byte 44 (map decimal p) →
    (length p ≤ 0 → output' ≡ output) → (0 < length p → output' ≡ output ++ 44 ∷ []) → output' ++ decimal x ≡ start ++ join_with_byte 44 (map decimal (p ++ x ∷ []))
joined_next [] x start output output' e first other = ap (λ l. l ++ decimal x) (first (omega arith) ∙ e ∙ append-nil start)
joined_next (y ∷ ys) x start output output' e first other =
    ap (λ l. l ++ decimal x) (other (omega arith) ∙ ap (λ l. l ++ 44 ∷ []) e)
    ∙ ap (λ l. l ++ decimal x) (append_assoc start (join_with_byte 44 (map decimal (y ∷ ys))) (44 ∷ []))
    ∙ append_assoc start (join_with_byte 44 (map decimal (y ∷ ys)) ++ 44 ∷ []) (decimal x)
    ∙ ap (λ l. start ++ l) (append_assoc (join_with_byte 44 (map decimal (y ∷ ys))) (44 ∷ []) (decimal x)
    ∙ sym (join-more 44 (decimal y) (decimal x) (map decimal ys)) ∙ ap (λ l. join_with_byte 44 (decimal y ∷ l)) (sym (map-append decimal ys (x ∷ []))))

-- the number at `i` after those before it
pub joined_step : (xs : List ℕ) (i x : ℕ) (start output output' : List ℕ) → i < length xs → x ≡ get_or xs i 0 → output ≡ start ++ join_with_byte 44 (map decimal (take i xs)) →
    (i ≤ 0 → output' ≡ output) → (0 < i → output' ≡ output ++ 44 ∷ []) → output' ++ decimal x ≡ start ++ join_with_byte 44 (map decimal (take (i + 1) xs))
joined_step xs i x start output output' h is e first other =
    let long : length (take i xs) ≡ i = simp length-take (omega arith) in
    let more : take i xs ++ x ∷ [] ≡ take (i + 1) xs = ap (λ y. take i xs ++ y ∷ []) is ∙ sym (take_more xs i 0 h) in
    joined_next (take i xs) x start output output' e (λ p. first (omega arith)) (λ p. other (omega arith))
    ∙ ap (λ l. start ++ join_with_byte 44 (map decimal l)) more
