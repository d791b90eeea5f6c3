-- The tokens of a text weigh at most as much as it has states for its bytes in UTF-8: 4 for each, or 16.
--
-- Each lexeme has a weight, which is at most that of the bytes of its characters, and at least the weight of its tokens.
use Rattle.std.proofs.Common.{◌≡◌, ℕ, zero, suc, ◌+◌, ◌*◌, ◌≤◌, List, [], ◌∷◌, Bool, true, false, ◌&&◌, Option, Some, None, Result, Ok, Err, take, drop, replicate, length, ◌==◌, refl, ap, ◌∙◌, subst, arith, length-append}
use lib.Utf8.{encode}
use Rattle.std.specs.Prelude.{nat_lt, encode_utf8, encode_utf8_all, if◌then◌else◌}
use Rattle.std.specs.List.{prefix_len}
use Rattle.std.specs.Str.{IsUtf8, chars}
use Rattle.std.proofs.lemmas.Bool.{cond_both}
use Rattle.std.proofs.lemmas.Str.{length-le-encodes, encodes-chars}
use Rattle.glob_syntax.specs.declared.options.Options.{Options}
use Rattle.glob_syntax.specs.declared.parse_error_kind.ParseErrorKind.{ParseErrorKind}
use Rattle.glob_syntax.specs.declared.parse_error_kind.ParseErrorKind.TheVariants.{UnclosedClass}
use Rattle.glob_syntax.specs.Token.{Token, Literal, ZeroOrMore, RecursivePrefix, Group, Tokens, end, and_then, Branches, none, branch, before}
use Rattle.glob_syntax.specs.Ranges.{ranges, bad_range}
use Rattle.glob_syntax.specs.Lexemes.{Lexeme, Char, One, Stars, Class, Open, Comma, Close, Bad, members, is_negated, class_lexeme, unclosed_lexeme, class_at, escape_at, star_run, lexeme_at, lexemes}
use Rattle.glob_syntax.specs.Nesting.{nested_lexeme, with_lexeme, nested}
use Rattle.glob_syntax.specs.Stars.{is_run, last_run, pairs, run_cut, slash_cut, slash_piece, piece}
use Rattle.glob_syntax.specs.Reading.{Levels, in_branch, in_level, open_level, levels, first_branch, is_whole_run, whole, whole_or_parse_error, reading}
use Rattle.glob_syntax.specs.inner.Weight.{any_weight, token_weight, weight, branches_weight}
use Rattle.glob_syntax.specs.StatesPerByte.{states_per_byte}

-- ---- bytes

-- how many bytes a character has, each counted four times under `whole_character`
abbrev counted : Bool → ℕ → ℕ
counted true c = 4 * length (encode_utf8 c)
counted false c = length (encode_utf8 c)

-- and how many characters have
abbrev bytes : Bool → List ℕ → ℕ
bytes q [] = 0
bytes q (c ∷ cs) = counted q c + bytes q cs

-- with 4 states for each that is counted, there are as many as the text has
bytes_are : (q : Bool) (cs : List ℕ) → 4 * bytes q cs ≡ (if q then 16 else 4) * length (encode_utf8_all cs)
bytes_are true [] = refl
bytes_are false [] = refl
bytes_are true (c ∷ cs) = omega (arith, length-append (encode_utf8 c) (encode_utf8_all cs), bytes_are true cs)
bytes_are false (c ∷ cs) = omega (arith, length-append (encode_utf8 c) (encode_utf8_all cs), bytes_are false cs)

-- a character has a byte
pub encode_some : (c : ℕ) → 1 ≤ length (encode_utf8 c)
encode_some c = let whole : 1 ≤ length (encode_utf8_all (c ∷ [])) = length-le-encodes (c ∷ []) in omega (arith, length-append (encode_utf8 c) [])

some_byte : (q : Bool) (c : ℕ) → 1 ≤ counted q c
some_byte true c = omega (arith, encode_some c)
some_byte false c = encode_some c

-- each byte is counted
all_counted : (q : Bool) (c : ℕ) → length (encode_utf8 c) ≤ counted q c
all_counted true c = omega arith
all_counted false c = omega arith

-- `[`, `,` and `/` have one byte
bracket_byte : length (encode_utf8 91) ≡ 1
unfolding encode
bracket_byte = refl

comma_byte : length (encode_utf8 44) ≡ 1
unfolding encode
comma_byte = refl

slash_byte : length (encode_utf8 47) ≡ 1
unfolding encode
slash_byte = refl

-- a `?` has no more states than its byte
any_light : (q : Bool) (c : ℕ) → (if q then 16 else 1) ≤ 4 * counted q c
any_light true c = omega (arith, encode_some c)
any_light false c = omega (arith, encode_some c)

module _ (o : Options) where
  bytes_drop : (n : ℕ) (cs : List ℕ) → bytes o.whole_character (drop n cs) ≤ bytes o.whole_character cs
  bytes_drop zero cs = omega arith
  bytes_drop (suc n) [] = omega arith
  bytes_drop (suc n) (c ∷ cs) = omega (arith, bytes_drop n cs)

  -- ---- lexemes

  -- as much as the tokens of a lexeme weigh
  abbrev lexeme_weight : Lexeme → ℕ
  lexeme_weight (Char escaped c) = 4 * length (encode_utf8 c)
  lexeme_weight One = any_weight o
  lexeme_weight (Stars n) = 3 + n
  lexeme_weight (Class negated rs) = 1
  lexeme_weight Open = 1
  lexeme_weight Comma = 4
  lexeme_weight Close = 0
  lexeme_weight (Bad f) = 0

  abbrev lexemes_weight : List Lexeme → ℕ
  lexemes_weight [] = 0
  lexemes_weight (m ∷ ms) = lexeme_weight m + lexemes_weight ms

  -- A lexeme that begins with `c`, followed by `cs`, so many of which belong to the lexeme: it weighs at most four times the bytes
  -- of its characters.
  abbrev IsBounded : ℕ → List ℕ → Lexeme × ℕ → Type 0
  IsBounded c cs p = lexeme_weight p.0 + 4 * bytes o.whole_character (drop p.1 cs) ≤ 4 * (counted o.whole_character c + bytes o.whole_character cs)

  light_bounded : (c : ℕ) (cs : List ℕ) (p : Lexeme × ℕ) → lexeme_weight p.0 ≤ 4 → IsBounded c cs p
  light_bounded c cs p light = omega (arith, some_byte o.whole_character c, bytes_drop p.1 cs)

  any_bounded : (c : ℕ) (cs : List ℕ) → IsBounded c cs (One, 0)
  any_bounded c cs = omega (arith, any_light o.whole_character c)

  plain_bounded : (c : ℕ) (cs : List ℕ) → IsBounded c cs (Char false c, 0)
  plain_bounded c cs = omega (arith, all_counted o.whole_character c)

  escape_bounded : (c : ℕ) (cs : List ℕ) → IsBounded c cs (escape_at cs)
  escape_bounded c [] = omega arith
  escape_bounded c (d ∷ cs) = omega (arith, some_byte o.whole_character c, all_counted o.whole_character d)

  -- each star has a byte
  stars_bytes : (p : ℕ → Bool) (cs : List ℕ) → prefix_len p cs + bytes o.whole_character (drop (prefix_len p cs) cs) ≤ bytes o.whole_character cs
  stars_bytes p [] = omega arith
  stars_bytes p (c ∷ cs) = cond_both (p c) (1 + prefix_len p cs) 0 (λ n. n + bytes o.whole_character (drop n (c ∷ cs)) ≤ bytes o.whole_character (c ∷ cs))
      (λ e. subst (λ n. n + bytes o.whole_character (drop n (c ∷ cs)) ≤ bytes o.whole_character (c ∷ cs)) (one_more (prefix_len p cs)) (omega (arith, some_byte o.whole_character c, stars_bytes p cs))) (λ e. omega arith)
    where
      one_more : (n : ℕ) → suc n ≡ 1 + n
      one_more n = omega arith

  stars_bounded : (p : ℕ → Bool) (c : ℕ) (cs : List ℕ) → IsBounded c cs (star_run (prefix_len p cs))
  stars_bounded p c cs = omega (arith, some_byte o.whole_character c, stars_bytes p cs)

  class_light : (negated : Bool) (body : List ℕ) → lexeme_weight (class_lexeme negated body) ≤ 4
  class_light negated body = elim (bad_range body) as (λ r. lexeme_weight (elim r [ None ↦ Class negated (ranges body) | Some f ↦ Bad f ]) ≤ 4) [ None ↦ omega arith | Some f ↦ omega arith ]

  unclosed_light : (cs : List ℕ) → lexeme_weight (unclosed_lexeme o cs) ≤ 4
  unclosed_light cs = elim o.allow_unclosed_class as (λ q. lexeme_weight (elim q [ true ↦ Char false 91 | false ↦ elim (bad_range cs) [ None ↦ Bad UnclosedClass | Some f ↦ Bad f ] ]) ≤ 4) [
    | true ↦ omega (arith, bracket_byte)
    | false ↦ elim (bad_range cs) as (λ r. lexeme_weight (elim r [ None ↦ Bad UnclosedClass | Some f ↦ Bad f ]) ≤ 4) [ None ↦ omega arith | Some f ↦ omega arith ]
  ]

  class_at_light : (n : ℕ) (negated : Bool) (cs : List ℕ) → lexeme_weight (class_at o n negated cs).0 ≤ 4
  class_at_light n negated cs = go (members cs)
    where
      go : (r : Option ℕ) → (let p : Lexeme × ℕ = elim r [ None ↦ (unclosed_lexeme o cs, 0) | Some k ↦ (class_lexeme negated (take k cs), n + k + 1) ] in lexeme_weight p.0 ≤ 4)
      go None = unclosed_light cs
      go (Some k) = class_light negated (take k cs)

  -- so does the lexeme at any position
  lexeme_at_bounded : (c : ℕ) (cs : List ℕ) → IsBounded c cs (lexeme_at o c cs)
  unfolding lexeme_at
  lexeme_at_bounded c cs =
      let light : (p : Lexeme × ℕ) → lexeme_weight p.0 ≤ 4 → IsBounded c cs p = light_bounded c cs in
      cond_both (c == 63) _ _ (IsBounded c cs) (λ e. any_bounded c cs)
      (λ e1. cond_both (c == 42) _ _ (IsBounded c cs) (λ e. stars_bounded (λ d. d == 42) c cs)
      (λ e2. cond_both (c == 91) _ _ (IsBounded c cs)
      (λ e. cond_both (is_negated cs) _ _ (IsBounded c cs) (λ g. light (class_at o 1 true (drop 1 cs)) (class_at_light 1 true (drop 1 cs))) (λ g. light (class_at o 0 false cs) (class_at_light 0 false cs)))
      (λ e3. cond_both (c == 123) _ _ (IsBounded c cs) (λ e. light (Open, 0) (omega arith))
      (λ e4. cond_both (c == 125) _ _ (IsBounded c cs) (λ e. light (Close, 0) (omega arith))
      (λ e5. cond_both (c == 44) _ _ (IsBounded c cs) (λ e. light (Comma, 0) (omega arith))
      (λ e6. cond_both (c == 92 && o.backslash_escape) _ _ (IsBounded c cs) (λ e. escape_bounded c cs) (λ e. plain_bounded c cs)))))))

  -- and all lexemes together
  lexemes_bounded : (n : ℕ) (cs : List ℕ) → lexemes_weight (lexemes o n cs) ≤ 4 * bytes o.whole_character (drop n cs)
  unfolding lexemes
  lexemes_bounded n [] = omega arith
  lexemes_bounded (suc n) (c ∷ cs) = lexemes_bounded n cs
  lexemes_bounded zero (c ∷ cs) = let p = lexeme_at o c cs in omega (arith, lexeme_at_bounded c cs, lexemes_bounded p.1 cs)

  -- ---- nesting

  nested_lexeme_weight : (d : ℕ) (m : Lexeme) (s : ℕ × Lexeme) → nested_lexeme d m ≡ Ok s → lexeme_weight s.1 ≡ lexeme_weight m
  nested_lexeme_weight d (Char escaped c) s e = let g : s ≡ (d, Char escaped c) = cc in ap (λ (p : ℕ × Lexeme). lexeme_weight p.1) g
  nested_lexeme_weight d One s e = let g : s ≡ (d, One) = cc in ap (λ (p : ℕ × Lexeme). lexeme_weight p.1) g
  nested_lexeme_weight d (Stars n) s e = let g : s ≡ (d, Stars n) = cc in ap (λ (p : ℕ × Lexeme). lexeme_weight p.1) g
  nested_lexeme_weight d (Class negated rs) s e = let g : s ≡ (d, Class negated rs) = cc in ap (λ (p : ℕ × Lexeme). lexeme_weight p.1) g
  nested_lexeme_weight d Open s e = let g : s ≡ (suc d, Open) = cc in ap (λ (p : ℕ × Lexeme). lexeme_weight p.1) g
  nested_lexeme_weight zero Comma s e = let g : s ≡ (zero, Char false 44) = cc in ap (λ (p : ℕ × Lexeme). lexeme_weight p.1) g ∙ ap (λ n. 4 * n) comma_byte
  nested_lexeme_weight (suc d) Comma s e = let g : s ≡ (suc d, Comma) = cc in ap (λ (p : ℕ × Lexeme). lexeme_weight p.1) g
  nested_lexeme_weight zero Close s e = absurd cc
  nested_lexeme_weight (suc d) Close s e = let g : s ≡ (d, Close) = cc in ap (λ (p : ℕ × Lexeme). lexeme_weight p.1) g
  nested_lexeme_weight d (Bad f) s e = absurd cc

  nested_weight : (d : ℕ) (ms ks : List Lexeme) → nested d ms ≡ Ok ks → lexemes_weight ks ≡ lexemes_weight ms
  unfolding nested
  nested_weight zero [] ks e = let g : ks ≡ [] = cc in ap lexemes_weight g
  nested_weight (suc d) [] ks e = absurd cc
  nested_weight d (m ∷ ms) ks e = step (λ k ls g. nested_weight k ms ls g) (nested_lexeme d m) refl e
    where
      after_lexeme : (s : ℕ × Lexeme) (r : Result (List Lexeme) ParseErrorKind) → lexeme_weight s.1 ≡ lexeme_weight m → ((ls : List Lexeme) → r ≡ Ok ls → lexemes_weight ls ≡ lexemes_weight ms) → with_lexeme s.1 r ≡ Ok ks → lexemes_weight ks ≡ lexemes_weight (m ∷ ms)
      after_lexeme s (Ok ls) q deep e' = let g : ks ≡ s.1 ∷ ls = cc in ap lexemes_weight g ∙ omega (arith, deep ls refl)
      after_lexeme s (Err f) q deep e' = absurd cc

      step : ((k : ℕ) (ls : List Lexeme) → nested k ms ≡ Ok ls → lexemes_weight ls ≡ lexemes_weight ms) → (r : Result (ℕ × Lexeme) ParseErrorKind) → nested_lexeme d m ≡ r → (let x : Result (List Lexeme) ParseErrorKind = elim r [ Err f ↦ Err f | Ok s ↦ with_lexeme s.1 (nested s.0 ms) ] in x ≡ Ok ks) → lexemes_weight ks ≡ lexemes_weight (m ∷ ms)
      step deep (Err f) q e' = absurd cc
      step deep (Ok s) q e' = after_lexeme s (nested s.0 ms) (nested_lexeme_weight d m s q) (deep s.0) e'

  -- ---- pieces

  abbrev list_weight : List Token → ℕ
  list_weight [] = 0
  list_weight (t ∷ ts) = token_weight o t + list_weight ts

  stars_weight : (n : ℕ) → list_weight (replicate n ZeroOrMore) ≡ n
  stars_weight zero = refl
  stars_weight (suc n) = omega (arith, stars_weight n)

  run_cut_weight : (starts ends : Bool) (n k : ℕ) → list_weight (run_cut starts ends n k).0 ≤ 3 + n
  run_cut_weight false ends n k = omega (arith, stars_weight n)
  run_cut_weight true true n k = omega arith
  run_cut_weight true false n k = omega arith

  slash_cut_weight : (ends some : Bool) (k : ℕ) → list_weight (slash_cut ends some k).0 ≤ 4
  slash_cut_weight true some k = omega arith
  slash_cut_weight false true k = omega arith
  slash_cut_weight false false k = omega (arith, slash_byte)

  abbrev char_cut : Bool → ℕ → List Lexeme → List Token × ℕ
  char_cut b c ms = elim b [ true ↦ slash_piece ms | false ↦ (Literal c ∷ [], 0) ]

  char_cut_weight : (b : Bool) (c : ℕ) (ms : List Lexeme) → list_weight (char_cut b c ms).0 ≤ 4 * length (encode_utf8 c)
  char_cut_weight true c ms = omega (arith, encode_some c, slash_cut_weight (last_run (drop (pairs ms) ms)) (nat_lt 0 (pairs ms)) (pairs ms))
  char_cut_weight false c ms = omega arith

  -- a piece weighs no more than its first lexeme
  piece_weight : (start : Bool) (m : Lexeme) (ms : List Lexeme) → list_weight (piece start m ms).0 ≤ lexeme_weight m
  unfolding piece
  piece_weight start (Stars n) ms = let all = Stars n ∷ ms in run_cut_weight (start && nat_lt 0 (pairs all)) (last_run (drop (pairs all) all)) n (pairs all)
  piece_weight start (Char escaped c) ms = char_cut_weight (c == 47) c ms
  piece_weight start One ms = omega arith
  piece_weight start (Class negated rs) ms = omega arith
  piece_weight start Open ms = omega arith
  piece_weight start Comma ms = omega arith
  piece_weight start Close ms = omega arith
  piece_weight start (Bad f) ms = omega arith

  -- ---- branches

  abbrev rest_weight : List Branches → ℕ
  rest_weight [] = 0
  rest_weight (bs ∷ more) = branches_weight o bs + rest_weight more

  -- of all levels together
  abbrev levels_weight : Levels → ℕ
  levels_weight ls = branches_weight o ls.0 + rest_weight ls.1

  before_weight : (front : List Token) (ts : Tokens) → weight o (before front ts) ≡ list_weight front + weight o ts
  before_weight [] ts = omega arith
  before_weight (t ∷ front) ts = omega (arith, before_weight front ts)

  in_branch_weight : (front : List Token) (bs : Branches) → branches_weight o (in_branch front bs) ≤ list_weight front + branches_weight o bs
  in_branch_weight front none = omega arith
  in_branch_weight front (branch ts bs) = omega (arith, before_weight front ts)

  open_weight : (ls : Levels) → levels_weight (open_level ls) ≤ 1 + levels_weight ls
  open_weight (bs, []) = omega arith
  open_weight (bs, outer ∷ more) = omega (arith, in_branch_weight (Group bs ∷ []) outer)

  -- a piece, and then the levels of lexemes that weigh at most w
  piece_level_weight : (start : Bool) (m : Lexeme) (ms : List Lexeme) (w : ℕ) → levels_weight (levels (piece start m ms).1 false ms) ≤ w → levels_weight (in_level (piece start m ms).0 (levels (piece start m ms).1 false ms)) ≤ lexeme_weight m + w
  piece_level_weight start m ms w h = let p = piece start m ms in omega (arith, piece_weight start m ms, in_branch_weight p.0 (levels p.1 false ms).0)

  -- the levels of lexemes weigh no more than the lexemes
  levels_light : (n : ℕ) (start : Bool) (ms : List Lexeme) → levels_weight (levels n start ms) ≤ lexemes_weight ms
  unfolding levels
  levels_light n start [] = omega arith
  levels_light (suc n) start (m ∷ ms) = omega (arith, levels_light n start ms)
  levels_light zero start (Open ∷ ms) = omega (arith, open_weight (levels zero true ms), levels_light zero true ms)
  levels_light zero start (Comma ∷ ms) = omega (arith, levels_light zero true ms)
  levels_light zero start (Close ∷ ms) = omega (arith, levels_light zero false ms)
  levels_light zero start (Char escaped c ∷ ms) = let h = piece_level_weight start (Char escaped c) ms (lexemes_weight ms) (levels_light (piece start (Char escaped c) ms).1 false ms) in omega (arith, h)
  levels_light zero start (One ∷ ms) = let h = piece_level_weight start One ms (lexemes_weight ms) (levels_light (piece start One ms).1 false ms) in omega (arith, h)
  levels_light zero start (Stars k ∷ ms) = let h = piece_level_weight start (Stars k) ms (lexemes_weight ms) (levels_light (piece start (Stars k) ms).1 false ms) in omega (arith, h)
  levels_light zero start (Class negated rs ∷ ms) = let h = piece_level_weight start (Class negated rs) ms (lexemes_weight ms) (levels_light (piece start (Class negated rs) ms).1 false ms) in omega (arith, h)
  levels_light zero start (Bad f ∷ ms) = let h = piece_level_weight start (Bad f) ms (lexemes_weight ms) (levels_light (piece start (Bad f) ms).1 false ms) in omega (arith, h)

  first_weight : (bs : Branches) (w : ℕ) → branches_weight o bs ≤ w → weight o (first_branch bs) ≤ w
  first_weight none w h = omega arith
  first_weight (branch ts bs) w h = omega arith

  run_weight : (m : Lexeme) → is_run m ≡ true → 3 ≤ lexeme_weight m
  run_weight (Stars n) e = omega arith
  run_weight m e = absurd cc

  whole_run_weight : (ms : List Lexeme) → is_whole_run ms ≡ true → 3 ≤ lexemes_weight ms
  whole_run_weight [] e = absurd cc
  whole_run_weight (m ∷ []) e = omega (arith, run_weight m e)
  whole_run_weight (m ∷ n ∷ ms) e = absurd cc

  -- and so the tokens of a glob weigh no more than its lexemes
  whole_weight : (ms : List Lexeme) → weight o (whole ms) ≤ lexemes_weight ms
  unfolding whole
  whole_weight ms = go (is_whole_run ms) refl
    where
      go : (q : Bool) → is_whole_run ms ≡ q → weight o (elim q [ true ↦ and_then RecursivePrefix end | false ↦ first_branch (levels zero true ms).0 ]) ≤ lexemes_weight ms
      go true e = omega (arith, whole_run_weight ms e)
      go false e = first_weight (levels zero true ms).0 (lexemes_weight ms) (omega (arith, levels_light zero true ms))

  -- ---- reading

  reads_bytes : (text : List ℕ) (ts : Tokens) → reading o text ≡ Ok ts → weight o ts ≤ 4 * bytes o.whole_character text
  unfolding reading
  reads_bytes text ts e = go (nested zero (lexemes o zero text)) refl e
    where
      go : (r : Result (List Lexeme) ParseErrorKind) → nested zero (lexemes o zero text) ≡ r → whole_or_parse_error r ≡ Ok ts → weight o ts ≤ 4 * bytes o.whole_character text
      go (Ok ms) q e' = let g : whole ms ≡ ts = cc in subst (λ us. weight o us ≤ 4 * bytes o.whole_character text) g (omega (arith, whole_weight ms, nested_weight zero (lexemes o zero text) ms q, lexemes_bounded zero text))
      go (Err f) q e' = absurd cc

  -- the tokens of a text, given as its bytes
  pub text_weight : (text : List ℕ) (ts : Tokens) → IsUtf8 text → reading o (chars text) ≡ Ok ts → weight o ts ≤ states_per_byte o * length text
  text_weight text ts utf8 e =
      let all : weight o ts ≤ states_per_byte o * length (encode_utf8_all (chars text)) = omega (arith, reads_bytes (chars text) ts e, bytes_are o.whole_character (chars text)) in
      subst (λ bs. weight o ts ≤ states_per_byte o * length bs) (encodes-chars text utf8) all
