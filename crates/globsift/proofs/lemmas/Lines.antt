-- Lines: whole ones, and the rest.
use Rattle.std.proofs.Common.{◌≡◌, ℕ, ◌+◌, ◌<◌, List, [], ◌∷◌, ◌++◌, length, take, drop, get_or, Bool, true, false, ◌||◌, cond, ap, ◌∙◌, sym, subst, append_assoc, refl, arith, add-one, suc, Option, None, Some, inl, inr}
use Rattle.std.specs.List.{list_any, onto_first}
use Rattle.std.proofs.lemmas.Bool.{eqb-true, cases_Bool, or_parts, or_right}
use Rattle.std.proofs.lemmas.List.{length-take, get_or-take, take-append-drop}
use Rattle.std.proofs.Math.Seq.{drop-cons}
use Rattle.memchr.specs.Find.{IsFirstByte, is_byte}
use Rattle.globsift.specs.Lines.{lines, is_lf, through_last_lf}
use Rattle.globsift.specs.inner.Sifting.{IsWholeLines}

-- a line with its LF, and then more
pub lines_line : (line rest : List ℕ) → list_any is_lf line ≡ false → lines (line ++ 10 ∷ rest) ≡ line ∷ lines rest
lines_line [] rest e = refl
lines_line (x ∷ xs) rest e =
    let p = or_parts (is_lf x) (list_any is_lf xs) e in
    ap (λ b. cond b ([] ∷ lines (xs ++ 10 ∷ rest)) (onto_first x (lines (xs ++ 10 ∷ rest)))) p.0
    ∙ ap (onto_first x) (lines_line xs rest p.1)

-- some bytes with no LF are one line
pub lines_rest : (x : ℕ) (xs : List ℕ) → list_any is_lf (x ∷ xs) ≡ false → lines (x ∷ xs) ≡ (x ∷ xs) ∷ []
lines_rest x [] e = ap (λ b. cond b ([] ∷ []) (onto_first x [])) (or_parts (is_lf x) false e).0
lines_rest x (y ∷ ys) e =
    let p = or_parts (is_lf x) (list_any is_lf (y ∷ ys)) e in
    ap (λ b. cond b ([] ∷ lines (y ∷ ys)) (onto_first x (lines (y ∷ ys)))) p.0 ∙ ap (onto_first x) (lines_rest y ys p.1)

-- bytes with no LF have no last LF
pub last_rest : (rest : List ℕ) → list_any is_lf rest ≡ false → through_last_lf rest ≡ []
last_rest [] e = refl
last_rest (x ∷ xs) e = ap (λ b. cond b (x ∷ through_last_lf xs) []) e

-- a line with its LF has an LF
pub has_lf : (line more : List ℕ) → list_any is_lf ((line ++ 10 ∷ []) ++ more) ≡ true
has_lf [] more = refl
has_lf (x ∷ xs) more = or_right (is_lf x) _ (has_lf xs more)

-- the last LF of a line with its LF, and then more
pub last_line : (line more : List ℕ) → through_last_lf ((line ++ 10 ∷ []) ++ more) ≡ (line ++ 10 ∷ []) ++ through_last_lf more
last_line [] more = refl
last_line (x ∷ xs) more =
    ap (λ b. cond b (x ∷ through_last_lf ((xs ++ 10 ∷ []) ++ more)) []) (or_right (is_lf x) _ (has_lf xs more))
    ∙ ap (λ (l : List ℕ). x ∷ l) (last_line xs more)

-- no bytes are no lines
pub IsWholeLines-nil : IsWholeLines []
IsWholeLines-nil = record { lines_go_on = λ more. refl; last_goes_on = λ more. refl }

-- a line with its LF is a whole line
pub IsWholeLines-line : (line : List ℕ) → list_any is_lf line ≡ false → IsWholeLines (line ++ 10 ∷ [])
IsWholeLines-line line e = record {
  lines_go_on = λ more. ap lines (append_assoc line (10 ∷ []) more) ∙ lines_line line more e ∙ ap (λ (l : List (List ℕ)). l ++ lines more) (sym (lines_line line [] e));
  last_goes_on = last_line line;
}

-- a byte in front of some lines, with more lines after them
first_goes_on : (x : ℕ) (b : Bool) (a more : List (List ℕ)) (line : List ℕ) (rest : List (List ℕ)) → a ≡ line ∷ rest → cond b ([] ∷ (a ++ more)) (onto_first x (a ++ more)) ≡ cond b ([] ∷ a) (onto_first x a) ++ more
first_goes_on x true a more line rest e = refl
first_goes_on x false a more line rest e = subst (λ (l : List (List ℕ)). onto_first x (l ++ more) ≡ onto_first x l ++ more) (sym e) refl

-- with a byte in front of some lines there is a first line
has_first : (x : ℕ) (b : Bool) (a : List (List ℕ)) (line : List ℕ) (rest : List (List ℕ)) → a ≡ line ∷ rest → (line' : List ℕ) × (rest' : List (List ℕ)) × (cond b ([] ∷ a) (onto_first x a) ≡ line' ∷ rest')
has_first x true a line rest e = ([], a, refl)
has_first x false a line rest e = (x ∷ line, rest, ap (onto_first x) e)

-- bytes with an LF at their end have a first line
first_line : (bytes : List ℕ) → (line : List ℕ) × (rest : List (List ℕ)) × (lines (bytes ++ 10 ∷ []) ≡ line ∷ rest)
first_line [] = ([], [], refl)
first_line (x ∷ xs) =
    let p = first_line xs in
    has_first x (is_lf x) (lines (xs ++ 10 ∷ [])) p.0 p.1 p.2

-- the lines of bytes with an LF at their end, and then more
lines_after : (bytes more : List ℕ) → lines ((bytes ++ 10 ∷ []) ++ more) ≡ lines (bytes ++ 10 ∷ []) ++ lines more
lines_after [] more = refl
lines_after (x ∷ xs) more =
    let p = first_line xs in
    ap (λ (l : List (List ℕ)). cond (is_lf x) ([] ∷ l) (onto_first x l)) (lines_after xs more)
    ∙ first_goes_on x (is_lf x) (lines (xs ++ 10 ∷ [])) (lines more) p.0 p.1 p.2

-- bytes with an LF at their end are whole lines, however many LFs they have
pub IsWholeLines-after : (bytes : List ℕ) → IsWholeLines (bytes ++ 10 ∷ [])
IsWholeLines-after bytes = record { lines_go_on = lines_after bytes; last_goes_on = last_line bytes }

-- whole lines, and then whole lines
pub IsWholeLines-append : (a b : List ℕ) → IsWholeLines a → IsWholeLines b → IsWholeLines (a ++ b)
IsWholeLines-append a b p q = record {
  lines_go_on = λ more. ap lines (append_assoc a b more) ∙ p.lines_go_on (b ++ more) ∙ ap (λ (l : List (List ℕ)). lines a ++ l) (q.lines_go_on more)
      ∙ sym (append_assoc (lines a) (lines b) (lines more)) ∙ ap (λ (l : List (List ℕ)). l ++ lines more) (sym (p.lines_go_on b));
  last_goes_on = λ more. ap through_last_lf (append_assoc a b more) ∙ p.last_goes_on (b ++ more) ∙ ap (λ (l : List ℕ). a ++ l) (q.last_goes_on more)
      ∙ sym (append_assoc a b (through_last_lf more));
}

-- no byte is LF
pub no_lf_from : (xs : List ℕ) → ((k : ℕ) → k < length xs → is_lf (get_or xs k 0) ≡ true → ⊥) → list_any is_lf xs ≡ false
no_lf_from [] h = refl
no_lf_from (x ∷ xs) h =
    elim (cases_Bool (is_lf x)) [
      | inl t ↦ absurd (h 0 (omega arith) t)
      | inr f ↦ ap (λ b. b || list_any is_lf xs) f ∙ no_lf_from xs (λ k lt t. h (suc k) (omega (arith, lt)) t)
    ]

-- a search that found no LF
pub not_found : (xs : List ℕ) (r : Option ℕ) → r ≡ None → IsFirstByte (is_byte 10) xs r → list_any is_lf xs ≡ false
not_found xs None e h = no_lf_from xs (λ k lt t. h k (omega arith) lt t)
not_found xs (Some i) e h = cc

-- a search that found LF: the line before it has none
pub found_lf : (xs : List ℕ) (i : ℕ) → IsFirstByte (is_byte 10) xs (Some i) → (i < length xs) × (list_any is_lf (take i xs) ≡ false) × (xs ≡ (take i xs ++ 10 ∷ []) ++ drop (i + 1) xs)
found_lf xs i h =
    let lt : i < length xs = h.0.high in
    let split : drop i xs ≡ get_or xs i 0 ∷ drop (i + 1) xs = rw add-one (drop-cons xs i 0 lt) in
    let here : get_or xs i 0 ≡ 10 = eqb-true _ _ h.1 in (
      lt,
      no_lf_from (take i xs) (λ k l t. let below : k < i = omega (arith, length-take i xs) in h.0.before k (omega arith) below (ap is_lf (sym (get_or-take i xs k 0 below)) ∙ t)),
      sym (take-append-drop i xs) ∙ ap (λ (l : List ℕ). take i xs ++ l) (split ∙ ap (λ x. x ∷ drop (i + 1) xs) here) ∙ sym (append_assoc (take i xs) (10 ∷ []) (drop (i + 1) xs)),
    )
