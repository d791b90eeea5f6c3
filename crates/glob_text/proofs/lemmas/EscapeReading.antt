-- An escaped text is read as one token for each of its characters.
use Rattle.std.proofs.Common.{◌≡◌, ℕ, zero, List, [], ◌∷◌, ◌++◌, map, Bool, true, false, ◌||◌, ◌&&◌, not, Some, Ok, ◌==◌, refl, ap, sym, ◌∙◌, subst}
use Rattle.std.specs.Prelude.{if◌then◌else◌}
use Rattle.std.specs.List.{position, list_all}
use Rattle.std.proofs.Math.Logic.{⊎_elim}
use Rattle.std.proofs.lemmas.Bool.{eqb-true, not-true}
use Rattle.std.proofs.lemmas.Iterator.Adapters.{position_from-zero}
use Rattle.glob_syntax.specs.declared.options.Options.{Options}
use Rattle.glob_syntax.specs.Ranges.{ranges, bad_range}
use Rattle.glob_syntax.specs.Lexemes.{Lexeme, Char, Class, Comma, lexemes, lexeme_at, members, class_at, is_negated}
use Rattle.glob_syntax.specs.Nesting.{nested, with_lexeme}
use Rattle.glob_syntax.specs.Stars.{is_run, pairs, last_run, slash_piece, piece}
use Rattle.glob_syntax.specs.Token.{Token, Literal, Tokens, end, before, branch, none}
use Rattle.glob_syntax.specs.Token as token
use Rattle.glob_syntax.specs.Reading.{in_level, levels, is_whole_run, whole, reading, whole_or_parse_error}
use Rattle.glob_text.specs.Escape.{is_special, escaped_chars}
use Rattle.bit_sets.proofs.lemmas.Booleans.{or_either, and_first, and_second}

-- ---- one character in brackets

closes_next : (rest : List ℕ) → position (λ c. c == 93) (93 ∷ rest) ≡ Some 0
closes_next rest = position_from-zero (λ c. c == 93) (93 ∷ rest)

one_class : (o : Options) (c : ℕ) (rest : List ℕ) → class_at o 0 false (c ∷ 93 ∷ rest) ≡ (Class false ((c, c) ∷ []), 2)
unfolding ranges bad_range
one_class o c rest = rw (closes_next rest, members, class_at) refl

one_member : (o : Options) (c : ℕ) (rest : List ℕ) → is_negated (c ∷ 93 ∷ rest) ≡ false → lexeme_at o 91 (c ∷ 93 ∷ rest) ≡ (Class false ((c, c) ∷ []), 2)
unfolding lexeme_at
one_member o c rest h = rw h (one_class o c rest)

bracketed : (o : Options) (c : ℕ) (rest : List ℕ) → is_negated (c ∷ 93 ∷ rest) ≡ false → lexemes o zero (91 ∷ c ∷ 93 ∷ rest) ≡ Class false ((c, c) ∷ []) ∷ lexemes o zero rest
unfolding lexemes
bracketed o c rest h = ap (λ (p : Lexeme × ℕ). p.0 ∷ lexemes o p.1 (c ∷ 93 ∷ rest)) (one_member o c rest h)

-- ---- special characters, and others

-- what holds of the special characters
pub by_special : (P : ℕ → Type 0) → P 63 → P 42 → P 91 → P 93 → P 123 → P 125 → (c : ℕ) → is_special c ≡ true → P c
by_special P p63 p42 p91 p93 p123 p125 c h =
    let at : (k : ℕ) → P k → (c == k) ≡ true → P c = λ k p e. subst P (sym (eqb-true c k e)) p in
    ⊎_elim (at 63 p63) (λ h.
    ⊎_elim (at 42 p42) (λ h.
    ⊎_elim (at 91 p91) (λ h.
    ⊎_elim (at 93 p93) (λ h.
    ⊎_elim (at 123 p123) (at 125 p125) (or_either _ _ h)) (or_either _ _ h)) (or_either _ _ h)) (or_either _ _ h)) (or_either _ _ h)

-- a special character in brackets does not negate
not_negating : (c : ℕ) (rest : List ℕ) → is_special c ≡ true → is_negated (c ∷ rest) ≡ false
not_negating c rest h = by_special (λ d. is_negated (d ∷ rest) ≡ false) refl refl refl refl refl refl c h

neither : (x y : Bool) → (x || y) ≡ false → (x ≡ false) × (y ≡ false)
neither false false h = (refl, refl)
neither false true h = absurd (cc)
neither true y h = absurd (cc)

-- ---- marks

-- the mark of an escaped character
abbrev pub kept_as : Bool → ℕ → Lexeme
kept_as true c = Class false ((c, c) ∷ [])
kept_as false c = Char false c

abbrev pub kept : ℕ → Lexeme
kept c = kept_as (is_special c) c

-- outside of groups `,` is a plain character
abbrev comma_as : Bool → ℕ → Lexeme × ℕ
comma_as t c = if t then (Comma, 0) else (Char false c, 0)

plain_lexeme : (o : Options) (c : ℕ) (cs : List ℕ) → is_special c ≡ false → (c == 92 && o.backslash_escape) ≡ false
    → lexeme_at o c cs ≡ comma_as (c == 44) c
unfolding lexeme_at
plain_lexeme o c cs s b =
    let t63 = neither (c == 63) _ s in
    let t42 = neither (c == 42) _ t63.1 in
    let t91 = neither (c == 91) _ t42.1 in
    let t93 = neither (c == 93) _ t91.1 in
    let t123 = neither (c == 123) _ t93.1 in
    rw (t63.0, t42.0, t91.0, t123.0, t123.1, b) refl

comma_or_not : (o : Options) (c : ℕ) (cs : List ℕ) (t : Bool) → t ≡ (c == 44)
    → nested zero ((comma_as t c).0 ∷ lexemes o (comma_as t c).1 cs) ≡ with_lexeme (Char false c) (nested zero (lexemes o zero cs))
unfolding nested
comma_or_not o c cs true e = ap (λ k. with_lexeme (Char false k) (nested zero (lexemes o zero cs))) (sym (eqb-true c 44 (sym e)))
comma_or_not o c cs false e = refl

one_kept_as : (o : Options) (c : ℕ) (cs : List ℕ) (t : Bool) → t ≡ is_special c → (c == 92 && o.backslash_escape) ≡ false
    → nested zero (lexemes o zero ((if t then 91 ∷ c ∷ 93 ∷ [] else c ∷ []) ++ cs)) ≡ with_lexeme (kept_as t c) (nested zero (lexemes o zero cs))
unfolding lexemes nested
one_kept_as o c cs true e b = ap (nested zero) (bracketed o c cs (not_negating c (93 ∷ cs) (sym e)))
one_kept_as o c cs false e b = ap (λ (p : Lexeme × ℕ). nested zero (p.0 ∷ lexemes o p.1 cs)) (plain_lexeme o c cs (sym e) b) ∙ comma_or_not o c cs (c == 44) refl

-- no character of these is a `\` that escapes
abbrev pub NoEscape : Options → List ℕ → Type 0
NoEscape o cs = list_all (λ c. not (c == 92 && o.backslash_escape)) cs ≡ true

lexemes_kept : (o : Options) (cs : List ℕ) → NoEscape o cs → nested zero (lexemes o zero (escaped_chars cs)) ≡ Ok (map kept cs)
unfolding lexemes nested
lexemes_kept o [] h = refl
lexemes_kept o (c ∷ cs) h =
    one_kept_as o c (escaped_chars cs) (is_special c) refl (not-true _ (and_first _ _ h)) ∙ ap (with_lexeme (kept c)) (lexemes_kept o cs (and_second _ _ h))

-- ---- tokens

abbrev pub token_as : Bool → ℕ → Token
token_as true c = token.Class false ((c, c) ∷ [])
token_as false c = Literal c

-- the token of an escaped character
abbrev pub token_for : ℕ → Token
token_for c = token_as (is_special c) c

no_run : (t : Bool) (c : ℕ) → is_run (kept_as t c) ≡ false
no_run true c = refl
no_run false c = refl

no_pairs : (cs : List ℕ) → pairs (map kept cs) ≡ 0
no_pairs [] = refl
no_pairs (c ∷ []) = refl
no_pairs (c ∷ d ∷ cs) = rw (no_run (is_special c) c, pairs) refl

no_last_run : (cs : List ℕ) → last_run (map kept cs) ≡ false
no_last_run [] = refl
no_last_run (c ∷ cs) = rw (no_run (is_special c) c) refl

slash_alone : (cs : List ℕ) → slash_piece (map kept cs) ≡ (Literal 47 ∷ [], 0)
slash_alone cs = rw (no_pairs cs) (rw (no_last_run cs) refl)

plain_piece : (c : ℕ) (cs : List ℕ) (start t : Bool) → t ≡ (c == 47) → elim t as (λ _. List Token × ℕ) [ true ↦ slash_piece (map kept cs) | false ↦ (Literal c ∷ [], 0) ] ≡ (Literal c ∷ [], 0)
plain_piece c cs start true e = slash_alone cs ∙ ap (λ k. (Literal k ∷ [], 0)) (sym (eqb-true c 47 (sym e)))
plain_piece c cs start false e = refl

one_token_as : (c : ℕ) (cs : List ℕ) (start t : Bool) → levels zero start (kept_as t c ∷ map kept cs) ≡ in_level (token_as t c ∷ []) (levels zero false (map kept cs))
unfolding levels piece
one_token_as c cs start true = refl
one_token_as c cs start false = ap (λ (p : List Token × ℕ). in_level p.0 (levels p.1 false (map kept cs))) (plain_piece c cs start (c == 47) refl)

levels_kept : (cs : List ℕ) (start : Bool) → levels zero start (map kept cs) ≡ (branch (before (map token_for cs) end) none, [])
unfolding levels
levels_kept [] start = refl
levels_kept (c ∷ cs) start = one_token_as c cs start (is_special c) ∙ ap (in_level (token_for c ∷ [])) (levels_kept cs false)

not_whole_run : (cs : List ℕ) → is_whole_run (map kept cs) ≡ false
not_whole_run [] = refl
not_whole_run (c ∷ []) = no_run (is_special c) c
not_whole_run (c ∷ d ∷ cs) = refl

abbrev pub tokens_for : List ℕ → Tokens
tokens_for cs = before (map token_for cs) end

whole_kept : (cs : List ℕ) → whole (map kept cs) ≡ tokens_for cs
unfolding whole
whole_kept cs = rw (not_whole_run cs, whole) (rw (levels_kept cs true) refl)

-- an escaped text has one token for each character of the text
pub escaped_reads : (o : Options) (cs : List ℕ) → NoEscape o cs → reading o (escaped_chars cs) ≡ Ok (tokens_for cs)
unfolding reading
escaped_reads o cs h = ap whole_or_parse_error (lexemes_kept o cs h) ∙ ap (λ ts. Ok ts) (whole_kept cs)
