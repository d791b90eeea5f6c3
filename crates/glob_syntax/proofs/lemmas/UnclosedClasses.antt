-- Where no `]` follows a position, none follows a later one.
use Rattle.std.proofs.Common.{◌≡◌, ℕ, zero, suc, ◌+◌, List, [], ◌∷◌, Bool, true, false, Option, Some, None, drop, ◌==◌, cond, refl, sym, ap, subst, ◌∙◌}
use Rattle.std.specs.List.{position_from}
use Rattle.std.proofs.lemmas.Iterator.Adapters.{position_from-zero}
use Rattle.glob_syntax.specs.inner.LexemeViews.{NoCloser}

none_cons : (i j : ℕ) (b : Bool) (r s : Option ℕ) → (r ≡ None → s ≡ None) → cond b (Some i) r ≡ None → cond b (Some j) s ≡ None
none_cons i j true r s f h = cc
none_cons i j false r s f h = f h

none_after : (i : ℕ) (b : Bool) (r : Option ℕ) → cond b (Some i) r ≡ None → r ≡ None
none_after i true r h = cc
none_after i false r h = h

none_from : (p : ℕ → Bool) (i j : ℕ) (xs : List ℕ) → position_from p i xs ≡ None → position_from p j xs ≡ None
none_from p i j [] h = refl
none_from p i j (x ∷ xs) h = none_cons i j (p x) _ _ (none_from p (i + 1) (j + 1) xs) h

none_drop : (p : ℕ → Bool) (n : ℕ) (xs : List ℕ) → position_from p 0 xs ≡ None → position_from p 0 (drop n xs) ≡ None
none_drop p zero xs h = h
none_drop p (suc n) [] h = refl
none_drop p (suc n) (x ∷ xs) h = none_drop p n xs (none_from p 1 0 xs (none_after 0 (p x) (position_from p (0 + 1) xs) h))

pub no_closer_after : (n : ℕ) (cs : List ℕ) → NoCloser cs → NoCloser (drop n cs)
no_closer_after n cs h = position_from-zero (λ c. c == 93) (drop n cs) ∙ none_drop (λ c. c == 93) n cs (sym (position_from-zero (λ c. c == 93) cs) ∙ h)

drop_next : (k : ℕ) (cs : List ℕ) → drop 1 (drop k cs) ≡ drop (suc k) cs
drop_next zero cs = refl
drop_next (suc k) [] = refl
drop_next (suc k) (c ∷ cs) = drop_next k cs

swapped : (n : ℕ) (cs : List ℕ) → drop 1 (drop n cs) ≡ drop n (drop 1 cs)
swapped zero cs = refl
swapped (suc n) [] = refl
swapped (suc n) (c ∷ cs) = drop_next n cs

drop_two : (n : ℕ) (cs : List ℕ) → drop 2 (drop n cs) ≡ drop n (drop 2 cs)
drop_two n cs = sym (drop_next 1 (drop n cs)) ∙ ap (drop 1) (swapped n cs) ∙ swapped n (drop 1 cs) ∙ ap (drop n) (drop_next 1 cs)

pub no_closer_next : (n : ℕ) (cs : List ℕ) → NoCloser (drop 2 cs) → NoCloser (drop 2 (drop n cs))
no_closer_next n cs h = subst NoCloser (sym (drop_two n cs)) (no_closer_after n (drop 2 cs) h)
