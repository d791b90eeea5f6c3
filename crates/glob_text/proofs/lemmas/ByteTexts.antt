-- Bytes and characters: their texts, and when they are equal.
use Rattle.std.proofs.Common.{◌≡◌, ℕ, ◌/◌, ◌%◌, ◌<◌, inl, inr, Bool, true, false, ◌&&◌, List, [], ◌∷◌, ◌++◌, map, IsTrue, refl, ap, sym, ◌∙◌, arith}
use Rattle.std.specs.Prelude.{◌↔◌, ◌==◌, encode_utf8, if◌then◌else◌}
use Rattle.std.specs.Char.{to_ascii_lowercase, to_ascii_uppercase, IsScalar}
use Rattle.std.proofs.lemmas.Bool.{ltb-true, ltb-false, lt-ltb, le-ltb, eqb-true, eq-eqb, ne_eqb, cases_lt, cases_eq, cond_both, agree_below_at}
use Rattle.std.proofs.lemmas.List.{map-append}
use Rattle.std.proofs.Math.Logic.{⊎_elim}
use lib.Utf8.{encode, scalar_cases}
use lib.Dec.{ltb}
use Rattle.glob_syntax.specs.TokenMatches.{compared, slash}
use Rattle.glob_text.specs.SmallRegex.{SpellsByte, is_special, is_hexadecimal, hexadecimal_value, is_same, single, folded_entries_have}
use Rattle.glob_text.specs.RegexText.{hexadecimal_digit, is_escaped, byte_text}
use Rattle.glob_syntax.specs.declared.options.Options.{Options}
use Rattle.glob_syntax.proofs.lemmas.MatchesByParts.{Then}

-- ---- spelling of a byte

-- a digit is one, and has the value that it was made of
hexadecimal : (n : ℕ) → n < 16 → IsTrue (is_hexadecimal (hexadecimal_digit n)) × (hexadecimal_value (hexadecimal_digit n) ≡ n)
hexadecimal n h = (
  agree_below_at (λ k. is_hexadecimal (hexadecimal_digit k)) (λ k. true) 16 n refl h,
  eqb-true (hexadecimal_value (hexadecimal_digit n)) n (agree_below_at (λ k. hexadecimal_value (hexadecimal_digit k) == k) (λ k. true) 16 n refl h),
)

-- a byte's text is one of its texts as a small regular expression
pub spells_byte : (c : ℕ) → c < 256 → SpellsByte c (byte_text c)
spells_byte c h = ⊎_elim {C = SpellsByte c (byte_text c)}
    (λ low. let e = lt-ltb c 128 low in rw e (by_case low (is_special c) refl))
    (λ high. let e = le-ltb c 128 high in
    let a = hexadecimal (c / 16) (omega arith) in
    let b = hexadecimal (c % 16) (omega arith) in
    rw e (inr (inr (hexadecimal_digit (c / 16), hexadecimal_digit (c % 16), refl, a.0, b.0, (rw (a.1, b.1) (omega arith))))))
    (cases_lt c 128)
  where
    by_case : c < 128 → (q : Bool) → is_special c ≡ q → SpellsByte c (if is_escaped c then 92 ∷ c ∷ [] else c ∷ [])
    by_case low true e = inr (inl (ap (λ t. if t then 92 ∷ c ∷ [] else c ∷ []) e, e))
    by_case low false e = inl (ap (λ t. if t then 92 ∷ c ∷ [] else c ∷ []) e, low, e)

-- ---- the bytes of a character

-- its numbers are bytes
abbrev pub Below : List ℕ → Type 0
Below [] = Unit {0}
Below (c ∷ cs) = (c < 256) × Below cs

-- the largest scalar value is 10FFFF
scalar_below : (c : ℕ) → IsScalar c → c < 1114112
scalar_below c h = ⊎_elim {C = c < 1114112} (λ low. omega arith) (λ high. high.1) (scalar_cases c h)

-- the UTF-8 of a character is bytes
pub encode_below : (c : ℕ) → IsScalar c → Below (encode_utf8 c)
unfolding encode
encode_below c s =
    let h = scalar_below c s in
    cond_both (ltb c 128) _ _ Below (λ e. (omega (arith, ltb-true c 128 e), tt))
    (λ n1. cond_both (ltb c 2048) _ _ Below (λ e. (omega (arith, ltb-true c 2048 e), (omega arith, tt)))
    (λ n2. cond_both (ltb c 65536) _ _ Below (λ e. (omega (arith, ltb-true c 65536 e), (omega arith, (omega arith, tt))))
    (λ n3. (omega arith, (omega arith, (omega arith, (omega arith, tt)))))))

-- ---- `/` is no letter

-- no other byte becomes `/`
lower_slash : (c : ℕ) → to_ascii_lowercase c ≡ slash → c ≡ slash
lower_slash c = cond_both (ltb c 65) _ _ (λ x. x ≡ slash → c ≡ slash) (λ e h. h) (λ e. cond_both (ltb c 91) _ _ (λ x. x ≡ slash → c ≡ slash) (λ g h. absurd (omega (arith, ltb-false c 65 e))) (λ g h. h))

upper_slash : (c : ℕ) → to_ascii_uppercase c ≡ slash → c ≡ slash
upper_slash c = cond_both (ltb c 97) _ _ (λ x. x ≡ slash → c ≡ slash) (λ e h. h) (λ e. cond_both (ltb c 123) _ _ (λ x. x ≡ slash → c ≡ slash) (λ g h. absurd (omega (arith, ltb-false c 97 e))) (λ g h. h))

-- `/` in a small regular expression is `/` alone, folded or not
pub slash_byte : (f : Bool) (c : ℕ) → IsTrue (is_same f slash c) → c ≡ slash
slash_byte true c h = lower_slash c (eqb-true (to_ascii_lowercase c) slash h)
slash_byte false c h = eqb-true c slash h

pub byte_slash : (f : Bool) → IsTrue (is_same f slash slash)
byte_slash true = refl
byte_slash false = refl

-- and so it is in a class
pub slash_alone : (f : Bool) (c : ℕ) → folded_entries_have f (single slash ∷ []) c ≡ (c == slash)
slash_alone f c = ⊎_elim {C = folded_entries_have f (single slash ∷ []) c ≡ (c == slash)}
    (λ e. rw e refl)
    (λ n. let a = ne_eqb c slash n in
    let b = ne_eqb (to_ascii_lowercase c) slash (λ e. n (lower_slash c e)) in
    let d = ne_eqb (to_ascii_uppercase c) slash (λ e. n (upper_slash c e)) in
    rw (a, b, d) (no_fold f))
    (cases_eq c 47)
  where
    no_fold : (p : Bool) → (p && false) ≡ false
    no_fold true = refl
    no_fold false = refl

-- ---- what is compared

-- the bytes are these, up to the case of letters where that is folded
abbrev pub IsSpelled : Options → List ℕ → List ℕ → Type 0
IsSpelled o bytes b = compared o b ≡ compared o bytes

-- an empty list has no first part of one element
nothing_first : (f : ℕ → ℕ) (c : ℕ) (u v : List ℕ) → [] ≡ u ++ v → map f u ≡ f c ∷ [] → ⊥
nothing_first f c [] v cut p = cc
nothing_first f c (d ∷ ds) v cut p = cc

-- equal under a function, part by part
mapped_more : (f : ℕ → ℕ) (c : ℕ) (cs y : List ℕ) → (map f y ≡ f c ∷ map f cs) ↔ Then (λ u. map f u ≡ f c ∷ []) (λ u. map f u ≡ map f cs) y
mapped_more f c cs [] = (λ e. absurd cc, λ h. absurd (nothing_first f c h.0 h.1 h.2 h.3))
mapped_more f c cs (d ∷ ds) = (
  λ e. (d ∷ [], ds, refl, (let g : f d ≡ f c = cc in ap (λ u. u ∷ []) g), (let g : map f ds ≡ map f cs = cc in g)),
  λ (u, v, cut, p, q). ap (map f) cut ∙ map-append f u v ∙ ap (λ l. l ++ map f v) p ∙ ap (λ l. f c ∷ l) q,
)

-- one byte and then the others
pub spelled_more : (o : Options) (c : ℕ) (cs y : List ℕ) → Then (IsSpelled o (c ∷ [])) (IsSpelled o cs) y ↔ IsSpelled o (c ∷ cs) y
spelled_more o c cs y = by_case o.case_insensitive refl
  where
    by_case : (q : Bool) → o.case_insensitive ≡ q → Then (IsSpelled o (c ∷ [])) (IsSpelled o cs) y ↔ IsSpelled o (c ∷ cs) y
    by_case true e = rw e (let n = mapped_more to_ascii_lowercase c cs y in (n.1, n.0))
    by_case false e = rw e (λ (u, v, cut, p, q). cut ∙ ap (λ l. l ++ v) p ∙ ap (λ l. c ∷ l) q, λ is. (c ∷ [], cs, is, refl, refl))

pub spelled_none : (o : Options) (y : List ℕ) → (y ≡ []) ↔ IsSpelled o [] y
spelled_none o y = by_case o.case_insensitive refl
  where
    none_left : (f : ℕ → ℕ) (u : List ℕ) → map f u ≡ [] → u ≡ []
    none_left f [] e = refl
    none_left f (d ∷ ds) e = absurd cc

    by_case : (q : Bool) → o.case_insensitive ≡ q → (y ≡ []) ↔ IsSpelled o [] y
    by_case true e = rw e (λ is. ap (map to_ascii_lowercase) is, λ is. none_left to_ascii_lowercase y is)
    by_case false e = rw e (λ is. is, λ is. is)

-- one byte, up to case
lower_one : (x : ℕ) (y : List ℕ) → ((c : ℕ) × (y ≡ c ∷ []) × IsTrue (is_same true x c)) ↔ (map to_ascii_lowercase y ≡ to_ascii_lowercase x ∷ [])
lower_one x [] = (λ h. absurd (let e = h.1 in cc), λ e. absurd cc)
lower_one x (d ∷ []) = (
  λ h. (let e : h.0 ≡ d = let g = h.1 in cc in ap (λ u. u ∷ []) (ap to_ascii_lowercase (sym e) ∙ eqb-true (to_ascii_lowercase h.0) (to_ascii_lowercase x) h.2)),
  λ e. (d, refl, eq-eqb (to_ascii_lowercase d) (to_ascii_lowercase x) (let g : to_ascii_lowercase d ≡ to_ascii_lowercase x = cc in g)),
)
lower_one x (d ∷ f ∷ fs) = (λ h. absurd (let e = h.1 in cc), λ e. absurd cc)

-- one byte, as a small regular expression has it
pub spelled_one : (o : Options) (x : ℕ) (y : List ℕ) → ((c : ℕ) × (y ≡ c ∷ []) × IsTrue (is_same o.case_insensitive x c)) ↔ IsSpelled o (x ∷ []) y
spelled_one o x y = by_case o.case_insensitive refl
  where
    by_case : (q : Bool) → o.case_insensitive ≡ q → ((c : ℕ) × (y ≡ c ∷ []) × IsTrue (is_same o.case_insensitive x c)) ↔ IsSpelled o (x ∷ []) y
    by_case true e = rw e (lower_one x y)
    by_case false e = rw e (λ h. h.1 ∙ ap (λ d. d ∷ []) (eqb-true h.0 x h.2), λ is. (x, is, eq-eqb x x refl))
