-- Lexemes whose groups are closed, from left to right.
use Rattle.std.proofs.Common.{◌≡◌, ℕ, zero, suc, ◌+◌, ◌-◌, ◌<◌, List, [], ◌∷◌, Bool, true, false, ◌&&◌, nat_lt, ◌==◌, drop, Result, Ok, Err, refl, sym, ap, ◌∙◌, subst, arith, ltb-true}
use Rattle.glob_syntax.specs.Token.{Token, Literal}
use Rattle.glob_syntax.specs.declared.parse_error_kind.ParseErrorKind.{ParseErrorKind}
use Rattle.glob_syntax.specs.Lexemes.{Lexeme, Char, One, Stars, Class, Open, Comma, Close, Bad}
use Rattle.glob_syntax.specs.Nesting.{nested_lexeme, with_lexeme, nested}
use Rattle.glob_syntax.specs.inner.Nests.{Nests, is_inner}
use Rattle.glob_syntax.specs.Stars.{is_run, is_slash, at_end, last_run, pairs, run_cut, slash_cut, slash_piece, piece}

abbrev char_cut : Bool → ℕ → List Lexeme → List Token × ℕ
char_cut b c ms = elim b [ true ↦ slash_piece ms | false ↦ (Literal c ∷ [], 0) ]

rest_is : (m n : Lexeme) (r : Result (List Lexeme) ParseErrorKind) (ms : List Lexeme) → with_lexeme m r ≡ Ok (n ∷ ms) → r ≡ Ok ms
rest_is m n (Ok ks) ms e = cc
rest_is m n (Err f) ms e = cc

pub nests_open : (d : ℕ) (ms : List Lexeme) → Nests d (Open ∷ ms) → Nests (suc d) ms
unfolding nested
nests_open d ms h = record { is = rest_is Open Open (nested (suc d) ms) ms h.is }

comma_outside : (r : Result (List Lexeme) ParseErrorKind) (ms : List Lexeme) → with_lexeme (Char false 44) r ≡ Ok (Comma ∷ ms) → ⊥
comma_outside (Ok ks) ms e = cc
comma_outside (Err f) ms e = cc

pub nests_comma : (d : ℕ) (ms : List Lexeme) → Nests d (Comma ∷ ms) → (0 < d) × Nests d ms
unfolding nested
nests_comma zero ms h = absurd (comma_outside (nested zero ms) ms h.is)
nests_comma (suc d) ms h = (omega arith, record { is = rest_is Comma Comma (nested (suc d) ms) ms h.is })

pub nests_close : (d : ℕ) (ms : List Lexeme) → Nests d (Close ∷ ms) → (0 < d) × Nests (d - 1) ms
unfolding nested
nests_close zero ms h = absurd (let e = h.is in cc)
nests_close (suc d) ms h = (omega arith, let e : d ≡ suc d - 1 = omega arith in subst (λ k. Nests k ms) e (record { is = rest_is Close Close (nested d ms) ms h.is }))

pub nests_end : (d : ℕ) → Nests d [] → d ≡ 0
unfolding nested
nests_end zero h = refl
nests_end (suc d) h = let e = h.is in cc

pub nests_inner : (d : ℕ) (m : Lexeme) (ms : List Lexeme) → is_inner m ≡ true → Nests d (m ∷ ms) → Nests d ms
unfolding nested
nests_inner d (Char e c) ms i h = record { is = rest_is (Char e c) (Char e c) (nested d ms) ms h.is }
nests_inner d One ms i h = record { is = rest_is One One (nested d ms) ms h.is }
nests_inner d (Stars n) ms i h = record { is = rest_is (Stars n) (Stars n) (nested d ms) ms h.is }
nests_inner d (Class n rs) ms i h = record { is = rest_is (Class n rs) (Class n rs) (nested d ms) ms h.is }
nests_inner d m ms i h = absurd (cc)

run_inner : (m : Lexeme) → is_run m ≡ true → is_inner m ≡ true
run_inner (Stars n) e = refl
run_inner m e = cc

slash_inner : (m : Lexeme) → is_slash m ≡ true → is_inner m ≡ true
slash_inner (Char e c) h = refl
slash_inner m h = cc

both : (a b : Bool) → a && b ≡ true → (a ≡ true) × (b ≡ true)
both true b h = (refl, h)
both false b h = absurd (cc)

nests_pair : (d : ℕ) (m n : Lexeme) (ms : List Lexeme) (b : Bool) → is_run m && is_slash n ≡ b → Nests d (m ∷ n ∷ ms) → (Nests d ms → Nests d (drop (pairs ms) ms)) → Nests d (drop (elim b [ true ↦ suc (suc (pairs ms)) | false ↦ 0 ]) (m ∷ n ∷ ms))
nests_pair d m n ms true e h rest =
    let p = both (is_run m) (is_slash n) e in
    rest (nests_inner d n ms (slash_inner n p.1) (nests_inner d m (n ∷ ms) (run_inner m p.0) h))
nests_pair d m n ms false e h rest = h

pub nests_pairs : (d : ℕ) (ms : List Lexeme) → Nests d ms → Nests d (drop (pairs ms) ms)
nests_pairs d [] h = h
nests_pairs d (m ∷ []) h = h
nests_pairs d (m ∷ n ∷ ms) h = nests_pair d m n ms (is_run m && is_slash n) refl h (nests_pairs d ms)

drop_next : {A : Type 0} (k : ℕ) (xs : List A) → drop 1 (drop k xs) ≡ drop (suc k) xs
drop_next zero xs = refl
drop_next (suc k) [] = refl
drop_next (suc k) (x ∷ xs) = drop_next k xs

nests_run : (d : ℕ) (ms : List Lexeme) → last_run ms ≡ true → Nests d ms → Nests d (drop 1 ms)
nests_run d [] e h = h
nests_run d (m ∷ ms) e h = nests_inner d m ms (run_inner m (both (is_run m) (at_end ms) e).0) h

-- after the pairs at the front, and the run that ends the branch
nests_last : (d : ℕ) (ms : List Lexeme) → Nests d ms → last_run (drop (pairs ms) ms) ≡ true → Nests d (drop (suc (pairs ms)) ms)
nests_last d ms h e = subst (Nests d) (drop_next (pairs ms) ms) (nests_run d (drop (pairs ms) ms) e (nests_pairs d ms h))

nests_run_cut : (d n : ℕ) (m : Lexeme) (ms : List Lexeme) (start starts ends : Bool) → is_inner m ≡ true → start && nat_lt 0 (pairs (m ∷ ms)) ≡ starts → last_run (drop (pairs (m ∷ ms)) (m ∷ ms)) ≡ ends
    → Nests d (m ∷ ms) → Nests d (drop (run_cut starts ends n (pairs (m ∷ ms))).1 ms)
nests_run_cut d n m ms start false ends i s e h = nests_inner d m ms i h
nests_run_cut d n m ms start true true i s e h = nests_last d (m ∷ ms) h e
nests_run_cut d n m ms start true false i s e h =
    let some : 0 < pairs (m ∷ ms) = ltb-true 0 (pairs (m ∷ ms)) (both start (nat_lt 0 (pairs (m ∷ ms))) s).1 in
    let k : pairs (m ∷ ms) ≡ suc (pairs (m ∷ ms) - 1) = omega arith in
    subst (λ j. Nests d (drop j (m ∷ ms))) k (nests_pairs d (m ∷ ms) h)

nests_slash_cut : (d : ℕ) (ms : List Lexeme) (ends some : Bool) → last_run (drop (pairs ms) ms) ≡ ends → Nests d ms → Nests d (drop (slash_cut ends some (pairs ms)).1 ms)
nests_slash_cut d ms true some e h = let k : suc (pairs ms) ≡ pairs ms + 1 = omega arith in subst (λ j. Nests d (drop j ms)) k (nests_last d ms h e)
nests_slash_cut d ms false true e h = nests_pairs d ms h
nests_slash_cut d ms false false e h = h

nests_char : (d : ℕ) (ms : List Lexeme) (b : Bool) (c : ℕ) → Nests d ms → Nests d (drop (char_cut b c ms).1 ms)
nests_char d ms true c h = nests_slash_cut d ms (last_run (drop (pairs ms) ms)) (nat_lt 0 (pairs ms)) refl h
nests_char d ms false c h = h

-- after a piece
pub nests_piece : (d : ℕ) (start : Bool) (m : Lexeme) (ms : List Lexeme) → is_inner m ≡ true → Nests d (m ∷ ms) → Nests d (drop (piece start m ms).1 ms)
unfolding piece
nests_piece d start (Stars n) ms i h = nests_run_cut d n (Stars n) ms start (start && nat_lt 0 (pairs (Stars n ∷ ms))) (last_run (drop (pairs (Stars n ∷ ms)) (Stars n ∷ ms))) refl refl refl h
nests_piece d start (Char escaped c) ms i h = nests_char d ms (c == 47) c (nests_inner d (Char escaped c) ms refl h)
nests_piece d start One ms i h = nests_inner d One ms i h
nests_piece d start (Class negated rs) ms i h = nests_inner d (Class negated rs) ms i h
nests_piece d start m ms i h = absurd (cc)

pub nests_bad : (d : ℕ) (f : ParseErrorKind) (ms : List Lexeme) → Nests d (Bad f ∷ ms) → ⊥
unfolding nested
nests_bad d f ms h = let e = h.is in cc

-- ---- nested lexemes nest again

nested_lexeme_again : (d : ℕ) (m : Lexeme) (x : ℕ × Lexeme) → nested_lexeme d m ≡ Ok x → nested_lexeme d x.1 ≡ Ok x
nested_lexeme_again d (Bad f) x h = absurd (cc)
nested_lexeme_again d Open x h = let e : (suc d, Open) ≡ x = cc in ap (λ (y : ℕ × Lexeme). nested_lexeme d y.1) (sym e) ∙ h
nested_lexeme_again zero Close x h = absurd (cc)
nested_lexeme_again (suc d) Close x h = let e : (d, Close) ≡ x = cc in ap (λ (y : ℕ × Lexeme). nested_lexeme (suc d) y.1) (sym e) ∙ h
nested_lexeme_again zero Comma x h = let e : (zero, Char false 44) ≡ x = cc in ap (λ (y : ℕ × Lexeme). nested_lexeme zero y.1) (sym e) ∙ h
nested_lexeme_again d m x h = let e : (d, m) ≡ x = cc in ap (λ (y : ℕ × Lexeme). nested_lexeme d y.1) (sym e) ∙ h

-- the lexemes after the first one, by what that one is
abbrev pub step : Result (ℕ × Lexeme) ParseErrorKind → List Lexeme → Result (List Lexeme) ParseErrorKind
step s ms = elim s [ Err f ↦ Err f | Ok x ↦ with_lexeme x.1 (nested x.0 ms) ]

pub nested_step : (d : ℕ) (m : Lexeme) (ms : List Lexeme) → nested d (m ∷ ms) ≡ step (nested_lexeme d m) ms
unfolding nested
nested_step d m ms = refl

again_rest : (d : ℕ) (x : ℕ × Lexeme) (ms ks : List Lexeme) (r : Result (List Lexeme) ParseErrorKind) → nested_lexeme d x.1 ≡ Ok x → nested x.0 ms ≡ r → ((ls : List Lexeme) → nested x.0 ms ≡ Ok ls → nested x.0 ls ≡ Ok ls) → with_lexeme x.1 r ≡ Ok ks → nested d ks ≡ Ok ks
again_rest d x ms ks (Err f) s h again e = absurd (cc)
again_rest d x ms ks (Ok ls) s h again e =
    let k : x.1 ∷ ls ≡ ks = cc in
    let one : nested d (x.1 ∷ ls) ≡ Ok (x.1 ∷ ls) = nested_step d x.1 ls ∙ ap (λ (t : Result (ℕ × Lexeme) ParseErrorKind). step t ls) s ∙ ap (with_lexeme x.1) (again ls h) in
    subst (λ (l : List Lexeme). nested d l ≡ Ok l) k one

again_first : (d : ℕ) (m : Lexeme) (ms ks : List Lexeme) (s : Result (ℕ × Lexeme) ParseErrorKind) → nested_lexeme d m ≡ s → ((e : ℕ) (ls : List Lexeme) → nested e ms ≡ Ok ls → nested e ls ≡ Ok ls) → step s ms ≡ Ok ks → nested d ks ≡ Ok ks
again_first d m ms ks (Err f) h again e = absurd (cc)
again_first d m ms ks (Ok x) h again e = again_rest d x ms ks (nested x.0 ms) (nested_lexeme_again d m x h) refl (again x.0) e

pub nested_again : (ms : List Lexeme) (d : ℕ) (ks : List Lexeme) → nested d ms ≡ Ok ks → nested d ks ≡ Ok ks
unfolding nested
nested_again [] zero ks h = let e : [] ≡ ks = cc in subst (λ (l : List Lexeme). nested zero l ≡ Ok l) e refl
nested_again [] (suc d) ks h = absurd (cc)
nested_again (m ∷ ms) d ks h = again_first d m ms ks (nested_lexeme d m) refl (nested_again ms) (sym (nested_step d m ms) ∙ h)
