-- Splitting a text from left to right, as a loop does.
use Rattle.std.proofs.Common.{◌≡◌, ℕ, zero, suc, List, [], ◌∷◌, ◌++◌, length, drop, Result, Ok, Err, refl, sym, ap, ◌∙◌, append_assoc, arith, ◌-◌, ◌<◌}
use Rattle.std.proofs.lemmas.List.{append-nil, nil_from_length}
use Rattle.glob_syntax.specs.declared.options.Options.{Options}
use Rattle.glob_syntax.specs.declared.parse_error_kind.ParseErrorKind.{ParseErrorKind}
use Rattle.glob_syntax.specs.declared.parse_error_kind.ParseErrorKind.TheVariants.{UnclosedAlternates}
use Rattle.glob_syntax.specs.Lexemes.{Lexeme, lexeme_at, lexemes}
use Rattle.glob_syntax.specs.Nesting.{nested_lexeme, with_lexeme, nested}

-- the lexemes read so far, and then those of what follows
abbrev pub with_front : List Lexeme → Result (List Lexeme) ParseErrorKind → Result (List Lexeme) ParseErrorKind
with_front front (Ok ms) = Ok (front ++ ms)
with_front front (Err f) = Err f

-- the characters that belong to the lexeme before are skipped
pub lexemes_skip : (o : Options) (n : ℕ) (cs : List ℕ) → lexemes o n cs ≡ lexemes o zero (drop n cs)
unfolding lexemes
lexemes_skip o zero cs = refl
lexemes_skip o (suc n) [] = refl
lexemes_skip o (suc n) (c ∷ cs) = lexemes_skip o n cs

regroup : (front : List Lexeme) (m : Lexeme) (read : Result (List Lexeme) ParseErrorKind) → with_front front (with_lexeme m read) ≡ with_front (front ++ m ∷ []) read
regroup front m (Ok ms) = ap (λ (l : List Lexeme). Ok l) (sym (append_assoc front (m ∷ []) ms))
regroup front m (Err f) = refl

abbrev step : Result (ℕ × Lexeme) ParseErrorKind → List Lexeme → Result (List Lexeme) ParseErrorKind
step s ms = elim s [ Err f ↦ Err f | Ok x ↦ with_lexeme x.1 (nested x.0 ms) ]

-- the lexemes of a text, by its first lexeme
first_lexeme : (o : Options) (d c : ℕ) (cs : List ℕ) (m : Lexeme) (more : ℕ) (s : Result (ℕ × Lexeme) ParseErrorKind) → (m, more) ≡ lexeme_at o c cs → s ≡ nested_lexeme d m
    → nested d (lexemes o zero (c ∷ cs)) ≡ step s (lexemes o zero (drop more cs))
unfolding lexemes nested
first_lexeme o d c cs m more s e h =
    ap (λ (p : Lexeme × ℕ). step (nested_lexeme d p.0) (lexemes o p.1 cs)) (sym e)
    ∙ ap (λ (r : Result (ℕ × Lexeme) ParseErrorKind). step r (lexemes o more cs)) (sym h)
    ∙ ap (step s) (lexemes_skip o more cs)

module _ (front : List Lexeme) (o : Options) (d : ℕ) (rest : List ℕ) (total : Result (List Lexeme) ParseErrorKind) (so_far : with_front front (nested d (lexemes o zero rest)) ≡ total) where
  -- a lexeme is read
  pub goes_on : (c : ℕ) (cs : List ℕ) (m : Lexeme) (more inside : ℕ) (kept : Lexeme) → rest ≡ c ∷ cs → (m, more) ≡ lexeme_at o c cs → Ok (inside, kept) ≡ nested_lexeme d m
      → with_front (front ++ kept ∷ []) (nested inside (lexemes o zero (drop more cs))) ≡ total
  goes_on c cs m more inside kept cell e h =
      sym (regroup front kept (nested inside (lexemes o zero (drop more cs))))
      ∙ ap (with_front front) (sym (first_lexeme o d c cs m more (Ok (inside, kept)) e h))
      ∙ ap (λ (l : List ℕ). with_front front (nested d (lexemes o zero l))) (sym cell) ∙ so_far

  -- a lexeme is an error
  pub stops : (c : ℕ) (cs : List ℕ) (m : Lexeme) (more : ℕ) (f : ParseErrorKind) → rest ≡ c ∷ cs → (m, more) ≡ lexeme_at o c cs → Err f ≡ nested_lexeme d m → total ≡ Err f
  stops c cs m more f cell e h =
      sym so_far ∙ ap (λ (l : List ℕ). with_front front (nested d (lexemes o zero l))) cell ∙ ap (with_front front) (first_lexeme o d c cs m more (Err f) e h)

  -- the text is at its end
  pub ends_open : length rest ≡ 0 → 0 < d → total ≡ Err UnclosedAlternates
  unfolding lexemes nested
  ends_open nil inside =
      let some_open : d ≡ suc (d - 1) = omega arith in
      sym so_far ∙ ap (λ (l : List ℕ). with_front front (nested d (lexemes o zero l))) (nil_from_length rest nil) ∙ ap (λ (k : ℕ). with_front front (nested k [])) some_open

  pub ends : length rest ≡ 0 → d ≡ 0 → total ≡ Ok front
  unfolding lexemes nested
  ends nil closed =
      sym so_far ∙ ap (λ (l : List ℕ). with_front front (nested d (lexemes o zero l))) (nil_from_length rest nil) ∙ ap (λ (k : ℕ). with_front front (nested k [])) closed
      ∙ ap (λ (l : List Lexeme). Ok l) (append-nil front)
