-- Indexes under a key.
use Rattle.std.proofs.Common.{◌≡◌, ℕ, ◌<◌, ◌≤◌, ◌⊎◌, inl, inr, Bool, true, false, List, [], ◌∷◌, ◌++◌, Some, None, length, get_or, refl, ap, sym, subst, ◌∙◌, arith}
use Rattle.std.proofs.Math.Logic.{⊎_elim}
use Rattle.std.specs.Str.{bytes_eq}
use Rattle.std.specs.Cmp.Lexicographic.{bytes_decides}
use Rattle.byte_nfa.specs.Steps.{HasNumber}
use Rattle.glob_path.specs.Entries.{Entry, entry, indexes_under}
use Rattle.glob_path.proofs.lemmas.Entries.{with_index}
use Rattle.glob_path.proofs.lemmas.Entries.{indexes_added}
use Rattle.set_matcher.specs.inner.Automata.{first, slot_of}

pub first_in : (xs : List ℕ) (s : ℕ) → first xs ≡ Some s → HasNumber s xs
first_in [] s e = absurd (cc)
first_in (x ∷ xs) s e = inl (let same : s ≡ x = cc in same)

pub first_none : (xs : List ℕ) → length xs < 1 → first xs ≡ None
first_none [] lt = refl
first_none (x ∷ xs) lt = absurd (omega (arith, lt))

pub first_some : (xs : List ℕ) (d : ℕ) → 1 ≤ length xs → first xs ≡ Some (get_or xs 0 d)
first_some [] d le = absurd (omega (arith, le))
first_some (x ∷ xs) d le = refl

-- ---- one index more in a list

in_push : (xs : List ℕ) (n k : ℕ) → HasNumber k (xs ++ n ∷ []) → HasNumber k xs ⊎ (n ≡ k)
in_push [] n k h = ⊎_elim {C = ⊥ ⊎ (n ≡ k)} (λ is. inr (sym is)) (λ no. absurd no) h
in_push (y ∷ ys) n k h = ⊎_elim {C = ((k ≡ y) ⊎ HasNumber k ys) ⊎ (n ≡ k)}
    (λ here. inl (inl here))
    (λ later. ⊎_elim {C = ((k ≡ y) ⊎ HasNumber k ys) ⊎ (n ≡ k)} (λ earlier. inl (inr earlier)) (λ last. inr last) (in_push ys n k later)) h

in_with : (b : Bool) (n k : ℕ) (xs : List ℕ) → HasNumber k (with_index b n xs) → HasNumber k xs ⊎ (n ≡ k)
in_with true n k xs h = in_push xs n k h
in_with false n k xs h = inl h

first_with : (b : Bool) (n s : ℕ) (xs : List ℕ) → first (with_index b n xs) ≡ Some s → (first xs ≡ Some s) ⊎ ((b ≡ true) × (n ≡ s))
first_with true n s [] e = inr (refl, (let same : n ≡ s = cc in same))
first_with true n s (x ∷ xs) e = inl e
first_with false n s xs e = inl e

first_only : (b : Bool) (n : ℕ) (xs : List ℕ) → b ≡ true → first xs ≡ None → first (with_index b n xs) ≡ Some n
first_only true n [] h e = refl
first_only true n (x ∷ xs) h e = absurd (cc)
first_only false n xs h e = absurd (cc)

-- ---- one entry more in a table

pub under_push : (es : List Entry) (key : List ℕ) (n : ℕ) (q : List ℕ) (k : ℕ) → HasNumber k (indexes_under (es ++ entry key n ∷ []) q) → HasNumber k (indexes_under es q) ⊎ (n ≡ k)
under_push es key n q k h = in_with (bytes_eq key q) n k (indexes_under es q) (subst (HasNumber k) (indexes_added es key n q) h)

-- the first index of some key is the one that there was, or that of the entry
pub first_push : (es : List Entry) (key : List ℕ) (n : ℕ) (q : List ℕ) (s : ℕ) → slot_of (es ++ entry key n ∷ []) q ≡ Some s → (slot_of es q ≡ Some s) ⊎ ((key ≡ q) × (n ≡ s))
first_push es key n q s e =
    ⊎_elim {C = (slot_of es q ≡ Some s) ⊎ ((key ≡ q) × (n ≡ s))} (λ old. inl old) (λ new. inr ((bytes_decides key q).0 new.0, new.1))
    (first_with (bytes_eq key q) n s (indexes_under es q) (ap first (sym (indexes_added es key n q)) ∙ e))

-- it is that of the entry if there was none
pub first_of_key : (es : List Entry) (key : List ℕ) (n : ℕ) → slot_of es key ≡ None → slot_of (es ++ entry key n ∷ []) key ≡ Some n
first_of_key es key n none = ap first (indexes_added es key n key) ∙ first_only (bytes_eq key key) n (indexes_under es key) ((bytes_decides key key).1 refl) none
