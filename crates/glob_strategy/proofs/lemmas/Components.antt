-- The last component of a path, and its extension.
use Rattle.std.proofs.Common.{◌≡◌, ℕ, suc, ◌+◌, ◌<◌, ◌⊎◌, inl, inr, Bool, true, false, true≢false, List, [], ◌∷◌, ◌++◌, length, get_or, drop, Some, None, refl, ap, sym, ◌∙◌, subst, arith}
use Rattle.std.specs.Prelude.{◌==◌, encode_utf8}
use Rattle.std.specs.List.{list_any}
use Rattle.std.proofs.Math.Logic.{⊎_elim}
use Rattle.std.proofs.lemmas.Bool.{eqb-true, eqb-false, or_parts}
use Rattle.std.proofs.lemmas.List.{append-nil, append_assoc, length-append}
use Rattle.std.proofs.lemmas.List.Prefix.{front_rest}
use Rattle.std.proofs.lemmas.Str.{inside_one}
use Rattle.glob_syntax.specs.TokenMatches.{slash}
use Rattle.glob_path.specs.PathParts.{is_separator, is_dot, with_first, last_position, after_position, from_position, last_component, extension_in, component_extension}
use Rattle.bit_sets.proofs.lemmas.Booleans.{or_either}
use Rattle.glob_path.proofs.lemmas.LastPositions.{neither}

-- the path ends with the text
abbrev pub EndsWith : List ℕ → List ℕ → Type 0
EndsWith path text = (front : List ℕ) × (path ≡ front ++ text)

-- ---- lists without a byte

-- no byte of the list passes
abbrev pub Lacks : (ℕ → Bool) → List ℕ → Type 0
Lacks test b = last_position test b ≡ None

pub lacks_cons : (test : ℕ → Bool) (c : ℕ) (cs : List ℕ) → test c ≡ false → Lacks test cs → Lacks test (c ∷ cs)
lacks_cons test c cs fails rest = λ i. with_first (rest i) (fails i)

pub lacks_append : (test : ℕ → Bool) (x y : List ℕ) → Lacks test x → Lacks test y → Lacks test (x ++ y)
lacks_append test [] y p q = q
lacks_append test (c ∷ cs) y p q = let n = neither (last_position test cs) (test c) p in lacks_cons test c (cs ++ y) n.1 (lacks_append test cs y n.0 q)

pub lacks_back : (test : ℕ → Bool) (x y : List ℕ) → Lacks test (x ++ y) → Lacks test y
lacks_back test [] y h = h
lacks_back test (c ∷ cs) y h = lacks_back test cs y (neither (last_position test (cs ++ y)) (test c) h).0

pub lacks_front : (test : ℕ → Bool) (x y : List ℕ) → Lacks test (x ++ y) → Lacks test x
lacks_front test [] y h = refl
lacks_front test (c ∷ cs) y h = let n = neither (last_position test (cs ++ y)) (test c) h in lacks_cons test c cs n.1 (lacks_front test cs y n.0)

-- a byte that is one of a list
one_of_at : (byte : ℕ) (b : List ℕ) → list_any (λ d. d == byte) b ≡ true → (k : ℕ) × (k < length b) × (get_or b k 0 ≡ byte)
one_of_at byte [] h = absurd (true≢false (sym h))
one_of_at byte (c ∷ cs) h = ⊎_elim {C = (k : ℕ) × (k < length (c ∷ cs)) × (get_or (c ∷ cs) k 0 ≡ byte)}
    (λ here. (0, omega arith, eqb-true c byte here))
    (λ later. let (k, l, is) = one_of_at byte cs later in (suc k, omega (arith, l), is))
    (or_either (c == byte) (list_any (λ d. d == byte) cs) h)

lacks_one : (byte : ℕ) (b : List ℕ) → list_any (λ d. d == byte) b ≡ false → Lacks (λ d. d == byte) b
lacks_one byte [] h = refl
lacks_one byte (c ∷ cs) h =
    let parts = or_parts (c == byte) (list_any (λ d. d == byte) cs) h in
    lacks_cons (λ d. d == byte) c cs parts.0 (lacks_one byte cs parts.1)

-- an ASCII byte is in the UTF-8 of no other character
pub encode_lacks : (byte c : ℕ) → byte < 128 → (c == byte) ≡ false → Lacks (λ d. d == byte) (encode_utf8 c)
encode_lacks byte c small other = lacks_one byte (encode_utf8 c) (by_test (list_any (λ d. d == byte) (encode_utf8 c)) refl)
  where
    by_test : (b : Bool) → list_any (λ d. d == byte) (encode_utf8 c) ≡ b → list_any (λ d. d == byte) (encode_utf8 c) ≡ false
    by_test false e = e
    by_test true e =
        let (k, l, is) = one_of_at byte (encode_utf8 c) e in
        let below : get_or (encode_utf8 c) k 0 < 128 = omega (arith, is, small) in
        let same : c ≡ get_or (encode_utf8 c) k 0 = inside_one c [] (encode_utf8 c) k (sym (append-nil (encode_utf8 c))) l below in
        absurd (eqb-false c byte other (same ∙ is))

-- ---- a list cut at the last byte that passes

pub record IsCutAt (test : ℕ → Bool) (b : List ℕ) : Type 0 where
  pub before : List ℕ
  pub byte : ℕ
  pub after : List ℕ
  pub cut : b ≡ before ++ byte ∷ after
  pub passes : test byte ≡ true
  pub lacks : Lacks test after

-- a list has no such byte, or is cut at the last one
pub cut_at_last : (test : ℕ → Bool) (b : List ℕ) → Lacks test b ⊎ IsCutAt test b
cut_at_last test [] = inl refl
cut_at_last test (c ∷ cs) = ⊎_elim {C = Lacks test (c ∷ cs) ⊎ IsCutAt test (c ∷ cs)} (λ none. at_first (test c) refl none)
    (λ k. inr (record { before = c ∷ k.before; byte = k.byte; after = k.after; cut = ap (λ l. c ∷ l) k.cut; passes = k.passes; lacks = k.lacks }))
    (cut_at_last test cs)
  where
    at_first : (t : Bool) → test c ≡ t → Lacks test cs → Lacks test (c ∷ cs) ⊎ IsCutAt test (c ∷ cs)
    at_first true e none = inr (record { before = []; byte = c; after = cs; cut = refl; passes = e; lacks = none })
    at_first false e none = inl (lacks_cons test c cs e none)

-- the last position, if the list is cut at it
pub position_at : (test : ℕ → Bool) (x : List ℕ) (c : ℕ) (y : List ℕ) → test c ≡ true → Lacks test y → last_position test (x ++ c ∷ y) ≡ Some (length x)
position_at test [] c y e none = λ i. with_first (none i) (e i)
position_at test (d ∷ x) c y e none = ap (λ o. with_first o (test d)) (position_at test x c y e none)

-- ---- last components

-- nothing, or bytes of which `/` is the last
abbrev pub EndsComponent : List ℕ → Type 0
EndsComponent x = (x ≡ []) ⊎ ((z : List ℕ) × (x ≡ z ++ slash ∷ []))

-- without a `/` the whole path is the last component
pub last_component_whole : (t : List ℕ) → Lacks is_separator t → last_component t ≡ t
last_component_whole t none = ap (after_position t) none

last_component_after : (z t : List ℕ) → Lacks is_separator t → last_component ((z ++ slash ∷ []) ++ t) ≡ t
last_component_after z t none =
    let b : List ℕ = z ++ slash ∷ t in
    let same : (z ++ slash ∷ []) ++ t ≡ b = append_assoc z (slash ∷ []) t in
    let long : length z + 1 ≡ length (z ++ slash ∷ []) = omega (arith, length-append z (slash ∷ [])) in
    ap last_component same ∙ ap (after_position b) (position_at is_separator z slash t refl none) ∙ ap (λ n. drop n b) long ∙ front_rest b (z ++ slash ∷ []) t (sym same)

-- the last component begins where a component ends
pub last_component_at : (x t : List ℕ) → EndsComponent x → Lacks is_separator t → last_component (x ++ t) ≡ t
last_component_at x t ends none = ⊎_elim {C = last_component (x ++ t) ≡ t}
    (λ e. ap (λ l. last_component (l ++ t)) e ∙ last_component_whole t none)
    (λ (z, e). ap (λ l. last_component (l ++ t)) e ∙ last_component_after z t none) ends

-- a path is what ends a component, and its last component
pub record IsSplit (b : List ℕ) : Type 0 where
  pub front : List ℕ
  pub ends : EndsComponent front
  pub cut : b ≡ front ++ last_component b
  pub lacks : Lacks is_separator (last_component b)

pub split : (b : List ℕ) → IsSplit b
split b = ⊎_elim {C = IsSplit b}
    (λ none. let same = last_component_whole b none in
    record { front = []; ends = inl refl; cut = sym same; lacks = subst (Lacks is_separator) (sym same) none })
    (λ k.
    let x : List ℕ = k.before ++ slash ∷ [] in
    let cut : b ≡ x ++ k.after = k.cut ∙ ap (λ c. k.before ++ c ∷ k.after) (eqb-true k.byte slash k.passes) ∙ sym (append_assoc k.before (slash ∷ []) k.after) in
    let same : last_component b ≡ k.after = ap last_component cut ∙ last_component_after k.before k.after k.lacks in
    record { front = x; ends = inr (k.before, refl); cut = cut ∙ ap (λ l. x ++ l) (sym same); lacks = subst (Lacks is_separator) (sym same) k.lacks })
    (cut_at_last is_separator b)

-- ---- extensions

pub extension_none : (t : List ℕ) → Lacks is_dot t → extension_in t ≡ []
extension_none t none = ap (from_position t) none

pub extension_at : (y t : List ℕ) → Lacks is_dot t → extension_in (y ++ 46 ∷ t) ≡ 46 ∷ t
extension_at y t none = ap (from_position (y ++ 46 ∷ t)) (position_at is_dot y 46 t refl none) ∙ front_rest (y ++ 46 ∷ t) y (46 ∷ t) refl

-- a `.`, and after it no `.` and no `/`
pub record IsExtension (k : List ℕ) : Type 0 where
  pub after : List ℕ
  pub dot : k ≡ 46 ∷ after
  pub no_dot : Lacks is_dot after
  pub no_slash : Lacks is_separator after

-- the extension of a path that ends with one
pub extension_ends : (b k : List ℕ) → IsExtension k → EndsWith b k → component_extension b ≡ k
extension_ends b k x (front, is) =
    let p = split front in
    let y : List ℕ = last_component front in
    let none : Lacks is_separator (y ++ 46 ∷ x.after) = lacks_append is_separator y (46 ∷ x.after) p.lacks (lacks_cons is_separator 46 x.after refl x.no_slash) in
    let cut : b ≡ p.front ++ (y ++ 46 ∷ x.after) = is ∙ (λ i. p.cut i ++ x.dot i) ∙ append_assoc p.front y (46 ∷ x.after) in
    ap extension_in (ap last_component cut ∙ last_component_at p.front (y ++ 46 ∷ x.after) p.ends none) ∙ extension_at y x.after x.no_dot ∙ sym x.dot

-- a path's last component has an extension, and ends with it
pub record HasExtension (b : List ℕ) : Type 0 where
  pub before : List ℕ
  pub cut : last_component b ≡ before ++ component_extension b
  pub is : IsExtension (component_extension b)

pub extension_parts : (b : List ℕ) → (component_extension b ≡ []) ⊎ HasExtension b
extension_parts b = ⊎_elim {C = (component_extension b ≡ []) ⊎ HasExtension b}
    (λ none. inl (extension_none (last_component b) none))
    (λ k.
    let cut : last_component b ≡ k.before ++ 46 ∷ k.after = k.cut ∙ ap (λ c. k.before ++ c ∷ k.after) (eqb-true k.byte 46 k.passes) in
    let same : component_extension b ≡ 46 ∷ k.after = ap extension_in cut ∙ extension_at k.before k.after k.lacks in
    let none : Lacks is_separator (46 ∷ k.after) = lacks_back is_separator k.before (46 ∷ k.after) (subst (Lacks is_separator) cut (split b).lacks) in
    inr (record {
      before = k.before;
      cut = cut ∙ ap (λ l. k.before ++ l) (sym same);
      is = record { after = k.after; dot = same; no_dot = k.lacks; no_slash = lacks_back is_separator (46 ∷ []) k.after none };
    }))
    (cut_at_last is_dot (last_component b))
