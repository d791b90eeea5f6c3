-- The rows of bytes of characters: what std writes for Unicode scalar values, and what the states of `?` match.
use Rattle.std.proofs.Common.{◌≡◌, ℕ, ◌+◌, ◌-◌, ◌*◌, ◌/◌, ◌%◌, ◌<◌, ◌≤◌, ◌⊎◌, Bool, true, false, true≢false, not, ◌&&◌, ◌||◌, List, [], ◌∷◌, IsTrue, refl, sym, ap, ◌∙◌, subst, arith, le-ltb, lt-ltb, inl, inr, ⊎_elim}
use Rattle.std.specs.Prelude.{◌==◌, encode_utf8}
use Rattle.std.specs.Char.{IsScalar}
use Rattle.std.specs.List.{list_any}
use Rattle.std.proofs.lemmas.Bool.{cases_lt, cond-true, cond-false}
use Rattle.std.proofs.lemmas.Bool.Decides.{nat_tests}
use lib.Dec.{ltb}
use lib.Utf8.{encode, scalar, scalar_cases}
use Rattle.glob_syntax.specs.declared.options.Options.{Options}
use Rattle.glob_syntax.specs.Characters.{is_between, is_character}
use Rattle.glob_syntax.specs.Laws.{CharactersAreScalars}
use Rattle.glob_syntax.specs.TokenMatches.{is_wild_character, slash}
use Rattle.glob_syntax.specs.inner.CharacterRows.{passes, continues, begins_three, wild_rows}

-- ---- what std writes

abbrev Spells : ℕ → List ℕ → Type 0
Spells c b = IsScalar c × (encode_utf8 c ≡ b)

one_spells : (b : ℕ) → b < 0x80 → Spells b (b ∷ [])
unfolding encode
one_spells b low = (grind (arith, nat_tests), rw (lt-ltb b 128 low))

two_spell : (b c : ℕ) → 0xC2 ≤ b → b ≤ 0xDF → 0x80 ≤ c → c ≤ 0xBF → Spells ((b - 0xC0) * 64 + (c - 0x80)) (b ∷ c ∷ [])
unfolding encode
two_spell b c b0 b1 c0 c1 =
    let x = (b - 0xC0) * 64 + (c - 0x80) in
    let first : 192 + x / 64 ≡ b = omega arith in
    let last : 128 + x % 64 ≡ c = omega arith in (
      grind (arith, nat_tests),
      rw (le-ltb x 128 (omega arith), lt-ltb x 2048 (omega arith), first, last),
    )

three_spell : (b c d : ℕ) → 0xE0 ≤ b → b ≤ 0xEF → 0x80 ≤ c → c ≤ 0xBF → 0x80 ≤ d → d ≤ 0xBF → (b ≡ 0xE0 → 0xA0 ≤ c) → (b ≡ 0xED → c < 0xA0)
    → Spells (((b - 0xE0) * 64 + (c - 0x80)) * 64 + (d - 0x80)) (b ∷ c ∷ d ∷ [])
unfolding encode
three_spell b c d b0 b1 c0 c1 d0 d1 low high =
    let x = ((b - 0xE0) * 64 + (c - 0x80)) * 64 + (d - 0x80) in
    let bounds : (2048 ≤ x) × (x < 65536) × (55296 ≤ x → 57344 ≤ x) = (grind arith, omega arith, λ h. grind arith) in
    let first : 224 + x / 4096 ≡ b = omega arith in
    let middle : 128 + (x / 64) % 64 ≡ c = omega arith in
    let last : 128 + x % 64 ≡ d = omega arith in (
      grind (arith, nat_tests),
      rw (le-ltb x 128 (omega arith), le-ltb x 2048 (omega arith), lt-ltb x 65536 (omega arith), first, middle, last),
    )

four_spell : (b c d e : ℕ) → 0xF0 ≤ b → b ≤ 0xF4 → 0x80 ≤ c → c ≤ 0xBF → 0x80 ≤ d → d ≤ 0xBF → 0x80 ≤ e → e ≤ 0xBF → (b ≡ 0xF0 → 0x90 ≤ c) → (b ≡ 0xF4 → c < 0x90)
    → Spells ((((b - 0xF0) * 64 + (c - 0x80)) * 64 + (d - 0x80)) * 64 + (e - 0x80)) (b ∷ c ∷ d ∷ e ∷ [])
unfolding encode
four_spell b c d e b0 b1 c0 c1 d0 d1 e0 e1 low high =
    let x = (((b - 0xF0) * 64 + (c - 0x80)) * 64 + (d - 0x80)) * 64 + (e - 0x80) in
    let bounds : (65536 ≤ x) × (x < 1114112) = (grind arith, grind arith) in
    let first : 240 + x / 262144 ≡ b = omega arith in
    let next : 128 + (x / 4096) % 64 ≡ c = omega arith in
    let middle : 128 + (x / 64) % 64 ≡ d = omega arith in
    let last : 128 + x % 64 ≡ e = omega arith in (
      grind (arith, nat_tests),
      rw (le-ltb x 128 (omega arith), le-ltb x 2048 (omega arith), le-ltb x 65536 (omega arith), first, next, middle, last),
    )

abbrev IsWritten : List ℕ → Type 0
IsWritten b = (c : ℕ) × IsScalar c × (b ≡ encode_utf8 c)

written : (c : ℕ) (b : List ℕ) → Spells c b → IsWritten b
written c b (is, e) = (c, is, sym e)

is_written : (b : List ℕ) → IsTrue (is_character b) → IsWritten b
is_written [] h = absurd (true≢false (sym h))
is_written (b ∷ []) h = written b (b ∷ []) (one_spells b (grind (arith, nat_tests)))
is_written (b ∷ c ∷ []) h = written _ (b ∷ c ∷ []) (two_spell b c (grind (arith, nat_tests)) (grind (arith, nat_tests)) (grind (arith, nat_tests)) (grind (arith, nat_tests)))
is_written (b ∷ c ∷ d ∷ []) h = written _ (b ∷ c ∷ d ∷ [])
    (three_spell b c d (grind (arith, nat_tests)) (grind (arith, nat_tests)) (grind (arith, nat_tests)) (grind (arith, nat_tests)) (grind (arith, nat_tests)) (grind (arith, nat_tests))
    (λ e. grind (arith, nat_tests)) (λ e. grind (arith, nat_tests)))
is_written (b ∷ c ∷ d ∷ e ∷ []) h = written _ (b ∷ c ∷ d ∷ e ∷ [])
    (four_spell b c d e (grind (arith, nat_tests)) (grind (arith, nat_tests)) (grind (arith, nat_tests)) (grind (arith, nat_tests)) (grind (arith, nat_tests)) (grind (arith, nat_tests))
    (grind (arith, nat_tests)) (grind (arith, nat_tests)) (λ e. grind (arith, nat_tests)) (λ e. grind (arith, nat_tests)))
is_written (b ∷ c ∷ d ∷ e ∷ f ∷ fs) h = absurd (true≢false (sym h))

-- a term of the type given
abbrev by : (A : Type 0) → A → A
by A a = a

encode_character : (c : ℕ) → scalar c ≡ true → IsTrue (is_character (encode_utf8 c))
unfolding encode
encode_character c is =
    let range = scalar_cases c is in
    ⊎_elim
    (λ (one : c < 128).
    let e : encode_utf8 c ≡ c ∷ [] = cond-true _ _ _ (by (ltb c 128 ≡ true) (grind (arith, nat_tests))) in
    rw e (grind (arith, nat_tests)))
    (λ (more : 128 ≤ c).
    let not_one : ltb c 128 ≡ false = grind (arith, nat_tests) in
    ⊎_elim
    (λ (two : c < 2048).
    let e : encode_utf8 c ≡ (192 + c / 64) ∷ (128 + c % 64) ∷ [] = cond-false _ _ _ not_one ∙ cond-true _ _ _ (by (ltb c 2048 ≡ true) (grind (arith, nat_tests))) in
    rw e (grind (arith, nat_tests)))
    (λ (wide : 2048 ≤ c).
    let not_two : ltb c 2048 ≡ false = grind (arith, nat_tests) in
    ⊎_elim
    (λ (three : c < 65536).
    let e : encode_utf8 c ≡ (224 + c / 4096) ∷ (128 + (c / 64) % 64) ∷ (128 + c % 64) ∷ [] =
    cond-false _ _ _ not_one ∙ cond-false _ _ _ not_two ∙ cond-true _ _ _ (by (ltb c 65536 ≡ true) (grind (arith, nat_tests))) in
    let apart : (c < 55296) ⊎ (57344 ≤ c) = ⊎_elim (λ low. inl low) (λ high. inr high.0) range in
    rw e (grind (arith, nat_tests)))
    (λ (four : 65536 ≤ c).
    let not_three : ltb c 65536 ≡ false = grind (arith, nat_tests) in
    let e : encode_utf8 c ≡ (240 + c / 262144) ∷ (128 + (c / 4096) % 64) ∷ (128 + (c / 64) % 64) ∷ (128 + c % 64) ∷ [] =
    cond-false _ _ _ not_one ∙ cond-false _ _ _ not_two ∙ cond-false _ _ _ not_three in
    let top : c < 1114112 = ⊎_elim (λ low. omega arith) (λ high. high.1) range in
    rw e (grind (arith, nat_tests)))
    (cases_lt c 65536))
    (cases_lt c 2048))
    (cases_lt c 128)

pub characters_are_scalars : CharactersAreScalars
characters_are_scalars b = (is_written b, λ (c, is, e). subst (λ l. IsTrue (is_character l)) (sym e) (encode_character c is))

-- ---- what the states of `?` match

-- the bytes pass some row of tests
abbrev pub some_row : List (List (ℕ → Bool)) → List ℕ → Bool
some_row rows b = list_any (λ row. passes row b) rows

-- E1 to EC and EE to EF, with any last bytes that are as they should be
begins_three_is : (b : ℕ) (x : Bool) → (x && begins_three b) ≡ ((x && is_between (0xE1, 0xEC) b) || (x && is_between (0xEE, 0xEF) b))
begins_three_is b true = grind (arith, nat_tests)
begins_three_is b false = refl

swapped : (p q r s : Bool) → (p || ((q || s) || (r || false))) ≡ (p || (q || (r || (s || false))))
swapped true q r s = refl
swapped false true r s = refl
swapped false false true true = refl
swapped false false true false = refl
swapped false false false true = refl
swapped false false false false = refl

-- no `/` is left out of longer characters
pub none_left_out : (p q : Bool) → p ≡ (p && not (q && false))
none_left_out true true = refl
none_left_out true false = refl
none_left_out false q = refl

pub ascii_left_out : (p q : Bool) → ((p && not q) || false) ≡ ((p || false) && not q)
ascii_left_out true true = refl
ascii_left_out true false = refl
ascii_left_out false q = refl

-- the rows of tests are those of characters, without `/` under `literal_separator`
pub wild_rows_are : (o : Options) (b : List ℕ) → some_row (wild_rows o) b ≡ is_wild_character o b
wild_rows_are o [] = refl
wild_rows_are o (b ∷ []) = ascii_left_out (is_between (0x00, 0x7F) b) (o.literal_separator && (b == slash))
wild_rows_are o (b ∷ c ∷ []) = none_left_out (is_character (b ∷ c ∷ [])) o.literal_separator
wild_rows_are o (b ∷ c ∷ d ∷ []) =
    let x = continues d && continues c in
    let low = (continues d && is_between (0xA0, 0xBF) c) && is_between (0xE0, 0xE0) b in
    let high = (continues d && is_between (0x80, 0x9F) c) && is_between (0xED, 0xED) b in
    ap (λ t. low || (t || (high || false))) (begins_three_is b x)
    ∙ swapped low (x && is_between (0xE1, 0xEC) b) high (x && is_between (0xEE, 0xEF) b)
    ∙ none_left_out (is_character (b ∷ c ∷ d ∷ [])) o.literal_separator
wild_rows_are o (b ∷ c ∷ d ∷ e ∷ []) = none_left_out (is_character (b ∷ c ∷ d ∷ e ∷ [])) o.literal_separator
wild_rows_are o (b ∷ c ∷ d ∷ e ∷ f ∷ fs) = refl
