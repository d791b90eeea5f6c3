-- Where the extension of a path's last component begins.
use Rattle.std.proofs.Common.{◌≡◌, ◌≢◌, ℕ, zero, suc, ◌+◌, ◌<◌, ◌⊎◌, inl, inr, List, [], ◌∷◌, Bool, true, false, Option, Some, None, refl, ap, sym, ◌∙◌, arith, length, drop, if◌then◌else◌}
use Rattle.std.specs.Prelude.{◌==◌, ◌||◌, slice_index}
use Rattle.std.proofs.Math.Logic.{⊎_elim}
use Rattle.std.proofs.lemmas.Bool.{eqb-true}
use Rattle.memchr.specs.Find.{IsLastByte, is_byte2}
use Rattle.glob_path.specs.PathParts.{is_separator, is_dot, with_first, last_position, after_position, from_position, component_extension, extension_in}
use Rattle.glob_path.proofs.lemmas.LastPositions.{last_position_found, neither}

-- the bytes from a position on if there is a `.`
abbrev from_dot : List ℕ → Option ℕ → List ℕ
from_dot p None = []
from_dot p (Some k) = if slice_index p k == 46 then drop k p else []

passed : (test : ℕ → Bool) (xs : List ℕ) (k : ℕ) → last_position test xs ≡ None → k < length xs → test (slice_index xs k) ≡ true → ⊥
passed test [] k none lt is = absurd (omega (arith, lt))
passed test (x ∷ xs) zero none lt is = let n = neither (last_position test xs) (test x) none in absurd (cc)
passed test (x ∷ xs) (suc k) none lt is = passed test xs k (neither (last_position test xs) (test x) none).0 (omega (arith, lt)) is

none_after : (test : ℕ → Bool) (xs : List ℕ) → ((k : ℕ) → k < length xs → test (slice_index xs k) ≡ true → ⊥) → last_position test xs ≡ None
none_after test xs none = sym (last_position_found test xs None (λ k lo hi is. none k hi is))

-- a byte in front changes nothing if one behind it is `.` or `/`
kept : (x : ℕ) (xs : List ℕ) (s d : Option ℕ) → last_position is_separator xs ≡ s → last_position is_dot xs ≡ d → (s ≡ None → d ≡ None → ⊥) → component_extension (x ∷ xs) ≡ component_extension xs
kept x xs (Some j) d es ed some =
    let more : suc j + 1 ≡ suc (j + 1) = omega arith in
    ap (λ s. extension_in (after_position (x ∷ xs) (with_first s (is_separator x)))) es ∙ ap (λ n. extension_in (drop n (x ∷ xs))) more ∙ sym (ap (λ s. extension_in (after_position xs s)) es)
kept x xs None (Some i) es ed some =
    ap (λ s. extension_in (after_position (x ∷ xs) (with_first s (is_separator x)))) es ∙ by_first (is_separator x) ∙ sym (ap (λ s. extension_in (after_position xs s)) es)
  where
    by_first : (b : Bool) → extension_in (after_position (x ∷ xs) (with_first None b)) ≡ extension_in xs
    by_first true = refl
    by_first false = ap (λ d. from_position (x ∷ xs) (with_first d (is_dot x))) ed ∙ sym (ap (from_position xs) ed)
kept x xs None None es ed some = absurd (some refl refl)

-- the first byte decides if none behind it is `.` or `/`
first : (x : ℕ) (xs : List ℕ) → last_position is_separator xs ≡ None → last_position is_dot xs ≡ None → component_extension (x ∷ xs) ≡ if x == 46 then x ∷ xs else []
first x xs es ed = ap (λ s. extension_in (after_position (x ∷ xs) (with_first s (is_separator x)))) es ∙ by_first (x == 47) (x == 46) refl refl
  where
    by_dot : (c : Bool) → from_position (x ∷ xs) (with_first None c) ≡ if c then x ∷ xs else []
    by_dot true = refl
    by_dot false = refl

    by_first : (b c : Bool) → (x == 47) ≡ b → (x == 46) ≡ c → extension_in (after_position (x ∷ xs) (with_first None b)) ≡ if c then x ∷ xs else []
    by_first true true e f = let s = eqb-true x 47 e in let d = eqb-true x 46 f in absurd (omega (arith, s, d))
    by_first true false e f = ap (from_position xs) ed
    by_first false c e f = ap (λ d. from_position (x ∷ xs) (with_first d (is_dot x))) ed ∙ ap (λ b. from_position (x ∷ xs) (with_first None b)) f ∙ by_dot c

is_stop : (b c : Bool) → (b || c) ≡ true → (b ≡ true) ⊎ (c ≡ true)
is_stop true c h = inl refl
is_stop false c h = inr h

either_stop : (b c : Bool) → (b ≡ true) ⊎ (c ≡ true) → (b || c) ≡ true
either_stop true c h = refl
either_stop false c (inl h) = absurd (cc)
either_stop false c (inr h) = h

-- the last `.` or `/` decides
pub extension_found : (p : List ℕ) (r : Option ℕ) → IsLastByte (is_byte2 46 47) p r → component_extension p ≡ from_dot p r
extension_found [] None h = refl
extension_found [] (Some k) h = absurd (omega (arith, h.0.high))
extension_found (x ∷ xs) None h =
    first x xs (none_after is_separator xs (λ k lt is. h (suc k) (omega arith) (omega (arith, lt)) (either_stop _ _ (inr is))))
    (none_after is_dot xs (λ k lt is. h (suc k) (omega arith) (omega (arith, lt)) (either_stop _ _ (inl is))))
    ∙ by_dot (x == 46) refl
  where
    by_dot : (c : Bool) → (x == 46) ≡ c → (if c then x ∷ xs else []) ≡ []
    by_dot true e = absurd (h 0 (omega arith) (omega arith) (either_stop _ _ (inl e)))
    by_dot false e = refl
extension_found (x ∷ xs) (Some zero) h =
    first x xs (none_after is_separator xs (λ k lt is. h.0.after (suc k) (omega arith) (omega (arith, lt)) (either_stop _ _ (inr is))))
    (none_after is_dot xs (λ k lt is. h.0.after (suc k) (omega arith) (omega (arith, lt)) (either_stop _ _ (inl is))))
extension_found (x ∷ xs) (Some (suc k)) h =
    kept x xs (last_position is_separator xs) (last_position is_dot xs) refl refl
    (λ s d. ⊎_elim {C = ⊥} (λ dot. passed is_dot xs k d (omega (arith, h.0.high)) dot) (λ sep. passed is_separator xs k s (omega (arith, h.0.high)) sep) (is_stop _ _ h.1))
    ∙ extension_found xs (Some k) (record { low = omega arith; high = omega (arith, h.0.high); after = λ j lo hi y. h.0.after (suc j) (omega (arith, lo)) (omega (arith, hi)) y }, h.1)

pub extension_at_dot : (p : List ℕ) (k : ℕ) → IsLastByte (is_byte2 46 47) p (Some k) → slice_index p k ≡ 46 → component_extension p ≡ drop k p
extension_at_dot p k h is = extension_found p (Some k) h ∙ ap (λ n. if n == 46 then drop k p else []) is

pub extension_elsewhere : (p : List ℕ) (k : ℕ) → IsLastByte (is_byte2 46 47) p (Some k) → slice_index p k ≢ 46 → component_extension p ≡ []
extension_elsewhere p k h off = extension_found p (Some k) h ∙ by_dot (slice_index p k == 46) refl
  where
    by_dot : (c : Bool) → (slice_index p k == 46) ≡ c → (if c then drop k p else []) ≡ []
    by_dot true e = absurd (off (eqb-true (slice_index p k) 46 e))
    by_dot false e = refl

pub extension_nowhere : (p : List ℕ) → IsLastByte (is_byte2 46 47) p None → component_extension p ≡ []
extension_nowhere p h = extension_found p None h
