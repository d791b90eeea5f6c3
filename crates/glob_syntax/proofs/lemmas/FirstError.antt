-- The first error of a text, as a loop finds it, and as `nested` finds it.
use Rattle.std.proofs.Common.{◌≡◌, ◌↔◌, ℕ, zero, suc, List, [], ◌∷◌, length, drop, Result, Ok, Err, Option, Some, None, refl, sym, ap, ◌∙◌, arith, ◌-◌, ◌<◌, ◌≤◌, ◌==◌, if◌then◌else◌, encode_utf8, encode_utf8_all}
use Rattle.std.specs.Option.{option_map}
use Rattle.std.specs.Str.{chars, IsUtf8}
use Rattle.std.proofs.lemmas.Str.{encodes-chars}
use Rattle.std.proofs.lemmas.List.{length-append, nil_from_length}
use Rattle.glob_syntax.specs.declared.options.Options.{Options}
use Rattle.glob_syntax.specs.declared.parse_error_kind.ParseErrorKind.{ParseErrorKind}
use Rattle.glob_syntax.specs.declared.parse_error_kind.ParseErrorKind.TheVariants.{UnclosedAlternates}
use Rattle.glob_syntax.specs.Lexemes.{Lexeme, lexeme_at, lexemes}
use Rattle.glob_syntax.specs.Nesting.{nested_lexeme, with_lexeme, nested}
use Rattle.glob_syntax.specs.Reading.{reading, whole_or_parse_error}
use Rattle.glob_syntax.specs.ErrorOffset.{lexemes_from, error_from, first_error, error_offset}
use Rattle.glob_syntax.specs.Laws.{ErrorsAgree}

-- an error, and the text from it on
abbrev Found : Type 0
Found = Option (ParseErrorKind × List ℕ)

-- the characters that belong to the lexeme before are skipped
skip : (o : Options) (n : ℕ) (cs : List ℕ) → lexemes_from o n cs ≡ lexemes_from o zero (drop n cs)
unfolding lexemes_from
skip o zero cs = refl
skip o (suc n) [] = refl
skip o (suc n) (c ∷ cs) = skip o n cs

abbrev step : ℕ → List ℕ → List ℕ → Result (ℕ × Lexeme) ParseErrorKind → List (Lexeme × List ℕ) → Found
step d outer text s ms = elim s [ Err f ↦ Some (f, text) | Ok x ↦ error_from x.0 (if d == 0 then text else outer) ms ]

-- the first error of a text, by its first lexeme
first_lexeme : (o : Options) (d : ℕ) (outer : List ℕ) (c : ℕ) (cs : List ℕ) (m : Lexeme) (more : ℕ) (s : Result (ℕ × Lexeme) ParseErrorKind) → (m, more) ≡ lexeme_at o c cs → s ≡ nested_lexeme d m
    → error_from d outer (lexemes_from o zero (c ∷ cs)) ≡ step d outer (c ∷ cs) s (lexemes_from o zero (drop more cs))
unfolding lexemes_from error_from
first_lexeme o d outer c cs m more s e h =
    ap (λ (p : Lexeme × ℕ). step d outer (c ∷ cs) (nested_lexeme d p.0) (lexemes_from o p.1 cs)) (sym e)
    ∙ ap (λ (r : Result (ℕ × Lexeme) ParseErrorKind). step d outer (c ∷ cs) r (lexemes_from o more cs)) (sym h)
    ∙ ap (step d outer (c ∷ cs) s) (skip o more cs)

module _ (o : Options) (d : ℕ) (outer rest : List ℕ) (total : Found) (so_far : error_from d outer (lexemes_from o zero rest) ≡ total) where
  -- a lexeme is no error
  pub goes_on : (c : ℕ) (cs : List ℕ) (m : Lexeme) (more inside : ℕ) (kept : Lexeme) → rest ≡ c ∷ cs → (m, more) ≡ lexeme_at o c cs → Ok (inside, kept) ≡ nested_lexeme d m
      → error_from inside (if d == 0 then rest else outer) (lexemes_from o zero (drop more cs)) ≡ total
  goes_on c cs m more inside kept cell e h =
      ap (λ (l : List ℕ). error_from inside (if d == 0 then l else outer) (lexemes_from o zero (drop more cs))) cell
      ∙ sym (first_lexeme o d outer c cs m more (Ok (inside, kept)) e h)
      ∙ ap (λ (l : List ℕ). error_from d outer (lexemes_from o zero l)) (sym cell) ∙ so_far

  -- a lexeme is an error
  pub stops : (c : ℕ) (cs : List ℕ) (m : Lexeme) (more : ℕ) (f : ParseErrorKind) → rest ≡ c ∷ cs → (m, more) ≡ lexeme_at o c cs → Err f ≡ nested_lexeme d m → total ≡ Some (f, rest)
  stops c cs m more f cell e h =
      sym so_far ∙ ap (λ (l : List ℕ). error_from d outer (lexemes_from o zero l)) cell ∙ first_lexeme o d outer c cs m more (Err f) e h
      ∙ ap (λ (l : List ℕ). Some (f, l)) (sym cell)

  -- the text is at its end
  pub ends_open : length rest ≡ 0 → 0 < d → total ≡ Some (UnclosedAlternates, outer)
  unfolding lexemes_from error_from
  ends_open nil inside =
      let some_open : d ≡ suc (d - 1) = omega arith in
      sym so_far ∙ ap (λ (l : List ℕ). error_from d outer (lexemes_from o zero l)) (nil_from_length rest nil) ∙ ap (λ (k : ℕ). error_from k outer []) some_open

  pub ends : length rest ≡ 0 → d ≡ 0 → total ≡ None
  unfolding lexemes_from error_from
  ends nil closed =
      sym so_far ∙ ap (λ (l : List ℕ). error_from d outer (lexemes_from o zero l)) (nil_from_length rest nil) ∙ ap (λ (k : ℕ). error_from k outer []) closed

-- what is left of a text takes no more bytes than the text
pub bytes_left : (n : ℕ) (cs : List ℕ) → length (encode_utf8_all (drop n cs)) ≤ length (encode_utf8_all cs)
bytes_left zero cs = omega arith
bytes_left (suc n) [] = omega arith
bytes_left (suc n) (c ∷ cs) = omega (arith, length-append (encode_utf8 c) (encode_utf8_all cs), bytes_left n cs)

pub bytes_after : (rest : List ℕ) (c : ℕ) (cs : List ℕ) (n : ℕ) → rest ≡ c ∷ cs → length (encode_utf8_all (drop n cs)) ≤ length (encode_utf8_all rest)
bytes_after rest c cs n cell = rw cell (bytes_left (suc n) (c ∷ cs))

-- ---- its offset

-- the bytes of a text's characters are those of the text
pub bytes_of : (text cs : List ℕ) → IsUtf8 text → cs ≡ chars text → length (encode_utf8_all cs) ≡ length text
bytes_of text cs utf8 are = ap (λ (l : List ℕ). length (encode_utf8_all l)) are ∙ ap length (encodes-chars text utf8)

past_kind : {Y : Type 0} (g : List ℕ → Y) (found : Found) → option_map (λ e. g e.1) found ≡ option_map g (option_map (λ e. e.1) found)
past_kind g None = refl
past_kind g (Some e) = refl

-- the offset, by the text from the error on
pub offset_of : (o : Options) (text cs : List ℕ) (left : Option (List ℕ)) → IsUtf8 text → cs ≡ chars text → left ≡ option_map (λ e. e.1) (first_error o cs)
    → option_map (λ l. length text - length (encode_utf8_all l)) left ≡ error_offset o (chars text)
unfolding error_offset
offset_of o text cs left utf8 are found =
    ap (option_map (λ l. length text - length (encode_utf8_all l))) found
    ∙ sym (past_kind (λ l. length text - length (encode_utf8_all l)) (first_error o cs))
    ∙ ap (λ (bs : List ℕ). option_map (λ e. length bs - length (encode_utf8_all e.1)) (first_error o cs)) (sym (encodes-chars text utf8))
    ∙ ap (λ (l : List ℕ). option_map (λ e. length (encode_utf8_all (chars text)) - length (encode_utf8_all e.1)) (first_error o l)) are

-- ---- the law

abbrev kind_in : Result (List Lexeme) ParseErrorKind → Option ParseErrorKind
kind_in (Ok ms) = None
kind_in (Err f) = Some f

kind_of_rest : (m : Lexeme) (r : Result (List Lexeme) ParseErrorKind) → kind_in r ≡ kind_in (with_lexeme m r)
kind_of_rest m (Ok ms) = refl
kind_of_rest m (Err f) = refl

abbrev kind : Found → Option ParseErrorKind
kind found = option_map (λ e. e.0) found

after_lexeme : (d : ℕ) (outer text : List ℕ) (s : Result (ℕ × Lexeme) ParseErrorKind) (ms : List (Lexeme × List ℕ)) (ns : List Lexeme)
    → ((k : ℕ) (out : List ℕ) → kind (error_from k out ms) ≡ kind_in (nested k ns))
    → kind (step d outer text s ms) ≡ kind_in (elim s [ Err f ↦ Err f | Ok x ↦ with_lexeme x.1 (nested x.0 ns) ])
after_lexeme d outer text (Err f) ms ns same = refl
after_lexeme d outer text (Ok x) ms ns same = same x.0 (if d == 0 then text else outer) ∙ kind_of_rest x.1 (nested x.0 ns)

same_kind : (o : Options) (n : ℕ) (cs : List ℕ) (d : ℕ) (outer : List ℕ) → kind (error_from d outer (lexemes_from o n cs)) ≡ kind_in (nested d (lexemes o n cs))
unfolding lexemes_from error_from lexemes nested
same_kind o n [] zero outer = refl
same_kind o n [] (suc d) outer = refl
same_kind o (suc n) (c ∷ cs) d outer = same_kind o n cs d outer
same_kind o zero (c ∷ cs) d outer =
    after_lexeme d outer (c ∷ cs) (nested_lexeme d (lexeme_at o c cs).0) (lexemes_from o (lexeme_at o c cs).1 cs) (lexemes o (lexeme_at o c cs).1 cs) (same_kind o (lexeme_at o c cs).1 cs)

read_error : (r : Result (List Lexeme) ParseErrorKind) (f : ParseErrorKind) → (whole_or_parse_error r ≡ Err f) ↔ (kind_in r ≡ Some f)
read_error (Ok ms) f = ((λ h. absurd cc), (λ h. absurd cc))
read_error (Err e) f = ((λ h. cc), (λ h. cc))

-- the law
pub errors_agree : ErrorsAgree
unfolding reading
errors_agree o text f =
    let same = same_kind o zero text zero text in
    let read = read_error (nested zero (lexemes o zero text)) f in
    ((λ h. same ∙ read.0 h), (λ h. read.1 (sym same ∙ h)))
