-- The text of a glob's tokens has a tree, which denotes what they match: a lemma for each kind of token, and induction.
use Rattle.std.proofs.Common.{◌≡◌, ℕ, ◌<◌, ◌≤◌, ◌⊎◌, inl, inr, Bool, true, false, true≢false, ◌&&◌, ◌||◌, not, List, [], ◌∷◌, ◌++◌, length, IsTrue, refl, ap, sym, ◌∙◌, subst, arith}
use Rattle.std.specs.Prelude.{◌↔◌, ◌==◌, drop, encode_utf8, if◌then◌else◌, codes}
use Rattle.std.specs.Char.{to_ascii_lowercase, to_ascii_uppercase}
use Rattle.std.specs.List.{list_all}
use Rattle.std.proofs.lemmas.List.{append-nil, append_assoc}
use Rattle.std.proofs.Math.Logic.{⊎_elim}
use Rattle.glob_syntax.specs.Token.{Token, Literal, Any, ZeroOrMore, RecursivePrefix, RecursiveSuffix, RecursiveZeroOrMore, Class, Group, Tokens, end, and_then, Branches, none, branch}
use Rattle.glob_syntax.specs.Blank.{is_kept, any_kept}
use Rattle.glob_syntax.specs.ClassBytes.{ranges_have, class_has}
use Rattle.glob_syntax.specs.TokenMatches.{some_branch_matches, tokens_match_each, compared, is_wild, is_wild_character, slash}
use Rattle.bit_sets.specs.Texts.{is_one_byte, is_empty}
use Rattle.glob_syntax.specs.Characters.{is_between}
use Rattle.glob_syntax.specs.TokensMatch.{tokens_match, is_prefix_alone}
use Rattle.glob_syntax.specs.inner.CharacterRows.{passes, continues, is_ascii_wild}
use Rattle.glob_syntax.proofs.lemmas.Characters.{some_row}
use Rattle.glob_text.specs.SmallRegex.{Entry, single, span, Atom, any_byte, byte, class_of, group_of, Item, once, repeated, optional, Row, no_item, item, Rows, no_row, row, expression, SpellsByte, SpellsEntries, SpellsAtom, SpellsItem, SpellsRow, SpellsOthers, entries_have, folded_entries_have, class_of_has, Repeats, no_piece, one_more, DenotesAtom, DenotesItem, DenotesRow, DenotesSome}
use Rattle.glob_text.specs.RegexText.{byte_text, bytes_text, ranges_text, class_text, others_text, group_text, with_text, ascii_text, longer_texts, token_text, tokens_text, kept_texts, body_text, regex_text}
use Rattle.glob_text.specs.RegexDenotes.{HasExpression}
use Rattle.glob_syntax.specs.declared.options.Options.{Options}
use Rattle.bit_sets.proofs.lemmas.Booleans.{and_both, and_first, and_second, or_first, or_second, or_either, iff_trans}
use Rattle.glob_syntax.specs.inner.WellFormed.{AreScalars, IsWellFormed, AreWellFormed, AllWellFormed}
use Rattle.glob_syntax.proofs.lemmas.TokenMatches.{some_any, OneByte, one_byte}
use Rattle.glob_syntax.proofs.lemmas.MatchesByParts.{TokenMatches, AllMatch, Then, empty_same, equal_bytes, prefix_matches, suffix_matches, between_matches, then_matches}
use Rattle.glob_text.proofs.lemmas.ByteTexts.{Below, IsSpelled, spells_byte, encode_below, slash_byte, byte_slash, slash_alone, spelled_more, spelled_none, spelled_one}
use Rattle.glob_text.proofs.lemmas.CharacterTexts.{spells_digits, same_byte, same_span, same_ascii, same_ascii_apart, regex_rows, regex_rows_are}
use Rattle.glob_text.proofs.lemmas.ClassTexts.{has_ranges}

-- ---- rows

-- the items of two rows, one after the other
abbrev joined : Row → Row → Row
joined no_item s = s
joined (item i r) s = item i (joined r s)

module _ (o : Options) where
  -- the text is that of a row, which denotes what P holds of
  abbrev HasRow : List ℕ → (List ℕ → Type 0) → Type 0
  HasRow t P = (r : Row) × SpellsRow r t × ((b : List ℕ) → DenotesRow o.case_insensitive r b ↔ P b)

  -- the same for the rows of a group, each with a `|` before it
  abbrev HasSome : List (List ℕ) → (List ℕ → Type 0) → Type 0
  HasSome ts P = (rs : Rows) × SpellsOthers rs (others_text ts) × ((b : List ℕ) → DenotesSome o.case_insensitive rs b ↔ P b)

  -- the text of two rows is their texts, one after the other
  spells_joined : (r s : Row) (t u : List ℕ) → SpellsRow r t → SpellsRow s u → SpellsRow (joined r s) (t ++ u)
  spells_joined no_item s t u e h = subst (λ l. SpellsRow s (l ++ u)) (sym e) h
  spells_joined (item i r) s t u (v, w, cut, first, rest) h = (v, w ++ u, ap (λ l. l ++ u) cut ∙ append_assoc v w u, first, spells_joined r s w u rest h)

  -- and it denotes what can be cut in two
  denotes_joined : (r s : Row) (b : List ℕ) → DenotesRow o.case_insensitive (joined r s) b ↔ Then (DenotesRow o.case_insensitive r) (DenotesRow o.case_insensitive s) b
  denotes_joined no_item s b = (λ h. ([], b, refl, refl, h), λ (x, y, cut, nil, h). subst (DenotesRow o.case_insensitive s) (sym (cut ∙ ap (λ l. l ++ y) nil)) h)
  denotes_joined (item i r) s b = (
    λ (x, y, cut, first, rest). let (u, v, parts, p, q) = (denotes_joined r s y).0 rest in
        (x ++ u, v, cut ∙ ap (λ l. x ++ l) parts ∙ sym (append_assoc x u v), (x, u, refl, first, p), q),
    λ (z, v, cut, (x, u, parts, first, p), q). (x, u ++ v, cut ∙ ap (λ l. l ++ v) parts ∙ append_assoc x u v, first, (denotes_joined r s (u ++ v)).1 (u, v, refl, p, q)),
  )

  -- the empty text
  has_none : HasRow [] (λ b. b ≡ [])
  has_none = (no_item, refl, λ b. (λ h. h, λ h. h))

  -- two texts, one after the other
  has_then : (t u : List ℕ) (P Q : List ℕ → Type 0) → HasRow t P → HasRow u Q → HasRow (t ++ u) (Then P Q)
  has_then t u P Q (r, spelled, same) (s, spelled', same') = (
    joined r s,
    spells_joined r s t u spelled spelled',
    λ b. (
      λ h. let (x, y, cut, p, q) = (denotes_joined r s b).0 h in (x, y, cut, (same x).0 p, (same' y).0 q),
      λ (x, y, cut, p, q). (denotes_joined r s b).1 (x, y, cut, (same x).1 p, (same' y).1 q),
    ),
  )

  -- the same said otherwise
  has_same : (t : List ℕ) (P Q : List ℕ → Type 0) → ((b : List ℕ) → P b ↔ Q b) → HasRow t P → HasRow t Q
  has_same t P Q iff (r, spelled, same) = (r, spelled, λ b. (λ h. (iff b).0 ((same b).0 h), λ h. (same b).1 ((iff b).1 h)))

  -- the text of one item
  has_item : (i : Item) (t : List ℕ) → SpellsItem i t → HasRow t (DenotesItem o.case_insensitive i)
  has_item i t h = (
    item i no_item,
    (t, [], sym (append-nil t), h, refl),
    λ b. (
      λ (x, y, cut, d, nil). subst (DenotesItem o.case_insensitive i) (sym (cut ∙ ap (λ l. x ++ l) nil ∙ append-nil x)) d,
      λ d. (b, [], sym (append-nil b), d, refl),
    ),
  )

  -- ---- groups

  -- no rows
  has_no_more : HasSome [] (λ b. ⊥)
  has_no_more = (no_row, refl, λ b. (λ h. h, λ h. h))

  -- one row more
  has_more : (t : List ℕ) (ts : List (List ℕ)) (P Q : List ℕ → Type 0) → HasRow t P → HasSome ts Q → HasSome (t ∷ ts) (λ b. P b ⊎ Q b)
  has_more t ts P Q (r, spelled, same) (rs, spelled', same') = (
    row r rs,
    (t, others_text ts, refl, spelled, spelled'),
    λ b. (
      λ h. ⊎_elim {C = P b ⊎ Q b} (λ d. inl ((same b).0 d)) (λ d. inr ((same' b).0 d)) h,
      λ h. ⊎_elim {C = DenotesSome o.case_insensitive (row r rs) b} (λ d. inl ((same b).1 d)) (λ d. inr ((same' b).1 d)) h,
    ),
  )

  -- the same said otherwise, of rows
  some_same : (ts : List (List ℕ)) (P Q : List ℕ → Type 0) → ((b : List ℕ) → P b ↔ Q b) → HasSome ts P → HasSome ts Q
  some_same ts P Q iff (rs, spelled, same) = (rs, spelled, λ b. (λ h. (iff b).0 ((same b).0 h), λ h. (same b).1 ((iff b).1 h)))

  -- rows in `(?:` and `)`
  has_group : (t : List ℕ) (ts : List (List ℕ)) (P : List ℕ → Type 0) → HasSome (t ∷ ts) P → HasRow (group_text (t ∷ ts)) P
  has_group t ts P (no_row, spelled, same) = absurd cc
  has_group t ts P (row r rs, (u, v, cut, first, rest), same) =
      let e : t ++ others_text ts ≡ u ++ v = cc in
      has_same (group_text (t ∷ ts)) (DenotesItem o.case_insensitive (once (group_of r rs))) P same
      (has_item (once (group_of r rs)) (group_text (t ∷ ts)) (u, v, ap (λ l. codes "(?:" ++ l ++ codes ")") e, first, rest))

  -- ---- bytes

  -- `/`, folded or not
  has_slash : HasRow (codes "/") (λ b. b ≡ slash ∷ [])
  has_slash = has_same (codes "/") (DenotesItem o.case_insensitive (once (byte slash))) (λ b. b ≡ slash ∷ [])
      (λ b. (λ (c, e, h). e ∙ ap (λ d. d ∷ []) (slash_byte o.case_insensitive c h), λ e. (slash, e, byte_slash o.case_insensitive)))
      (has_item (once (byte slash)) (codes "/") (spells_byte slash (omega arith)))

  -- bytes, one after another
  spelled_has : (xs : List ℕ) → Below xs → HasRow (bytes_text xs) (IsSpelled o xs)
  spelled_has [] h = has_same [] (λ b. b ≡ []) (IsSpelled o []) (spelled_none o) has_none
  spelled_has (x ∷ xs) (h, hs) = has_same (bytes_text (x ∷ xs)) (Then (IsSpelled o (x ∷ [])) (IsSpelled o xs)) (IsSpelled o (x ∷ xs)) (spelled_more o x xs)
      (has_then (byte_text x) (bytes_text xs) (IsSpelled o (x ∷ [])) (IsSpelled o xs)
      (has_same (byte_text x) (DenotesItem o.case_insensitive (once (byte x))) (IsSpelled o (x ∷ [])) (spelled_one o x) (has_item (once (byte x)) (byte_text x) (spells_byte x h)))
      (spelled_has xs hs))

  -- ---- any bytes

  abbrev Everything : List ℕ → Type 0
  Everything b = Unit {0}

  -- `.*` denotes everything
  any_repeats : (b : List ℕ) → Repeats (DenotesAtom o.case_insensitive any_byte) b
  any_repeats [] = no_piece
  any_repeats (c ∷ cs) = one_more (c ∷ []) cs (c ∷ cs) refl (c, refl) (any_repeats cs)

  has_everything : HasRow (codes ".*") Everything
  has_everything = has_same (codes ".*") (DenotesItem o.case_insensitive (repeated any_byte)) Everything (λ b. (λ h. tt, λ h. any_repeats b))
      (has_item (repeated any_byte) (codes ".*") (codes ".", refl, refl))

  -- ---- `?` and `*`

  -- one byte, but no `/` if q holds
  abbrev wild : Bool → Atom
  wild true = class_of true (single slash ∷ [])
  wild false = any_byte

  spells_wild : (q : Bool) → SpellsAtom (wild q) (if q then codes "[^/]" else codes ".")
  spells_wild true = (codes "/", refl, (codes "/", [], refl, spells_byte slash (omega arith), refl), omega arith)
  spells_wild false = refl

  -- it is what `?` matches
  wild_is : (q : Bool) → o.literal_separator ≡ q → (b : List ℕ) → DenotesAtom o.case_insensitive (wild q) b ↔ OneByte (is_wild o) b
  wild_is true e b = rw e (
    λ (c, is, h). (c, is, sym (ap not (slash_alone o.case_insensitive c)) ∙ h),
    λ (c, is, h). (c, is, ap not (slash_alone o.case_insensitive c) ∙ h),
  )
  wild_is false e b = rw e (λ (c, is). (c, is, refl), λ (c, is, h). (c, is))

  has_one : (q : Bool) → o.literal_separator ≡ q → HasRow (if q then codes "[^/]" else codes ".") (λ b. IsTrue (is_one_byte (is_wild o) b))
  has_one q e = has_same (if q then codes "[^/]" else codes ".") (DenotesItem o.case_insensitive (once (wild q))) (λ b. IsTrue (is_one_byte (is_wild o) b))
      (λ b. iff_trans (wild_is q e b) (one_byte (is_wild o) b))
      (has_item (once (wild q)) (if q then codes "[^/]" else codes ".") (spells_wild q))

  repeats_there : (q : Bool) → o.literal_separator ≡ q → (b : List ℕ) → Repeats (DenotesAtom o.case_insensitive (wild q)) b → TokenMatches o ZeroOrMore b
  repeats_there q e b no_piece = refl
  repeats_there q e b (one_more x y b' cut p rest) =
      let (c, is, h) = (wild_is q e x).0 p in
      subst (TokenMatches o ZeroOrMore) (sym (cut ∙ ap (λ l. l ++ y) is)) (and_both (is_wild o c) (list_all (is_wild o) y) h (repeats_there q e y rest))

  repeats_back : (q : Bool) → o.literal_separator ≡ q → (b : List ℕ) → TokenMatches o ZeroOrMore b → Repeats (DenotesAtom o.case_insensitive (wild q)) b
  repeats_back q e [] h = no_piece
  repeats_back q e (c ∷ cs) h = one_more (c ∷ []) cs (c ∷ cs) refl ((wild_is q e (c ∷ [])).1 (c, refl, and_first (is_wild o c) (list_all (is_wild o) cs) h))
      (repeats_back q e cs (and_second (is_wild o c) (list_all (is_wild o) cs) h))

  spells_repeated : (q : Bool) → SpellsItem (repeated (wild q)) (if q then codes "[^/]*" else codes ".*")
  spells_repeated true = (codes "[^/]", refl, spells_wild true)
  spells_repeated false = (codes ".", refl, spells_wild false)

  has_star : (q : Bool) → o.literal_separator ≡ q → HasRow (if q then codes "[^/]*" else codes ".*") (TokenMatches o ZeroOrMore)
  has_star q e = has_same (if q then codes "[^/]*" else codes ".*") (DenotesItem o.case_insensitive (repeated (wild q))) (TokenMatches o ZeroOrMore)
      (λ b. (repeats_there q e b, repeats_back q e b))
      (has_item (repeated (wild q)) (if q then codes "[^/]*" else codes ".*") (spells_repeated q))

  -- ---- whole characters

  abbrev Passes : List (ℕ → Bool) → List ℕ → Type 0
  Passes tests b = IsTrue (passes tests b)

  abbrev SomeRow : List (List (ℕ → Bool)) → List ℕ → Type 0
  SomeRow rows b = IsTrue (some_row rows b)

  passes_one : (test : ℕ → Bool) (b : List ℕ) → OneByte test b ↔ Passes (test ∷ []) b
  passes_one test [] = (λ h. absurd (let e = h.1 in cc), λ h. absurd (true≢false (sym h)))
  passes_one test (c ∷ []) = (λ (d, is, h). (let e : d ≡ c = cc in subst (λ x. IsTrue (test x)) e h), λ h. (c, refl, h))
  passes_one test (c ∷ d ∷ ds) = (λ h. absurd (let e = h.1 in cc), λ h. absurd (true≢false (sym h)))

  passes_more : (test : ℕ → Bool) (tests : List (ℕ → Bool)) (b : List ℕ) → Then (Passes (test ∷ [])) (Passes tests) b ↔ Passes (test ∷ tests) b
  passes_more test tests b = (there, back b)
    where
      there : Then (Passes (test ∷ [])) (Passes tests) b → Passes (test ∷ tests) b
      there (x, y, cut, p, q) =
          let (c, is, h) = (passes_one test x).1 p in
          subst (Passes (test ∷ tests)) (sym (cut ∙ ap (λ l. l ++ y) is)) (and_both (passes tests y) (test c) q h)

      back : (b : List ℕ) → Passes (test ∷ tests) b → Then (Passes (test ∷ [])) (Passes tests) b
      back [] h = absurd (true≢false (sym h))
      back (c ∷ cs) h = (c ∷ [], cs, refl, and_second (passes tests cs) (test c) h, and_first (passes tests cs) (test c) h)

  -- one class or byte, and then the others
  has_more_tests : (t u : List ℕ) (test : ℕ → Bool) (tests : List (ℕ → Bool)) → HasRow t (Passes (test ∷ [])) → HasRow u (Passes tests) → HasRow (t ++ u) (Passes (test ∷ tests))
  has_more_tests t u test tests first rest = has_same (t ++ u) (Then (Passes (test ∷ [])) (Passes tests)) (Passes (test ∷ tests)) (passes_more test tests)
      (has_then t u (Passes (test ∷ [])) (Passes tests) first rest)

  -- one byte that is no letter
  has_byte : (x : ℕ) (t : List ℕ) → 128 ≤ x → SpellsByte x t → HasRow t (Passes (is_between (x, x) ∷ []))
  has_byte x t high spelled = has_same t (DenotesItem o.case_insensitive (once (byte x))) (Passes (is_between (x, x) ∷ []))
      (λ b. iff_trans (λ (c, is, h). (c, is, sym (same_byte o.case_insensitive x c high) ∙ h), λ (c, is, h). (c, is, same_byte o.case_insensitive x c high ∙ h)) (passes_one (is_between (x, x)) b))
      (has_item (once (byte x)) t spelled)

  -- a class with the bytes of a test, folded or not
  has_class_of : (es : List Entry) (t : List ℕ) (test : ℕ → Bool) → 1 ≤ length es → SpellsEntries es t → ((c : ℕ) → folded_entries_have o.case_insensitive es c ≡ test c)
      → HasRow (codes "[" ++ t ++ codes "]") (Passes (test ∷ []))
  has_class_of es t test some spelled same = has_same (codes "[" ++ t ++ codes "]") (DenotesItem o.case_insensitive (once (class_of false es))) (Passes (test ∷ []))
      (λ b. iff_trans (λ (c, is, h). (c, is, sym (same c) ∙ h), λ (c, is, h). (c, is, same c ∙ h)) (passes_one test b))
      (has_item (once (class_of false es)) (codes "[" ++ t ++ codes "]") (t, refl, spelled, some))

  -- a class of one range of bytes that are no letters
  has_span : (x y : ℕ) (u v : List ℕ) → 128 ≤ x → SpellsByte x u → SpellsByte y v → HasRow (codes "[" ++ (u ++ codes "-" ++ v) ++ codes "]") (Passes (is_between (x, y) ∷ []))
  has_span x y u v high first last = has_class_of (span x y ∷ []) (u ++ codes "-" ++ v) (is_between (x, y)) (omega arith)
      (u ++ codes "-" ++ v, [], sym (append-nil (u ++ codes "-" ++ v)), (u, v, refl, first, last), refl) (λ c. same_span o.case_insensitive x y c high)

  has_continues : HasRow (codes "[\\x80-\\xbf]") (Passes (continues ∷ []))
  has_continues = has_span 0x80 0xBF (codes "\\x80") (codes "\\xbf") (omega arith) (spells_byte 0x80 (omega arith)) (spells_byte 0xBF (omega arith))

  -- the last two bytes, and the last three
  has_two : HasRow (codes "[\\x80-\\xbf][\\x80-\\xbf]") (Passes (continues ∷ continues ∷ []))
  has_two = has_more_tests (codes "[\\x80-\\xbf]") (codes "[\\x80-\\xbf]") continues (continues ∷ []) has_continues has_continues

  has_three : HasRow (codes "[\\x80-\\xbf][\\x80-\\xbf][\\x80-\\xbf]") (Passes (continues ∷ continues ∷ continues ∷ []))
  has_three = has_more_tests (codes "[\\x80-\\xbf]") (codes "[\\x80-\\xbf][\\x80-\\xbf]") continues (continues ∷ continues ∷ []) has_continues has_two

  -- the ASCII characters
  ascii_class : (q : Bool) → o.literal_separator ≡ q → HasRow (if q then codes "[\\x00-\\x2e\\x30-\\x7f]" else codes "[\\x00-\\x7f]") (Passes (is_ascii_wild o ∷ []))
  ascii_class true e = has_class_of (span 0x00 0x2E ∷ span 0x30 0x7F ∷ []) (codes "\\x00-\\x2e\\x30-\\x7f") (is_ascii_wild o) (omega arith) (
    codes "\\x00-\\x2e",
    codes "\\x30-\\x7f",
    refl,
    (codes "\\x00", codes "\\x2e", refl, spells_digits 48 48 refl refl, spells_digits 50 101 refl refl),
    (codes "\\x30-\\x7f", [], refl, (codes "\\x30", codes "\\x7f", refl, spells_digits 51 48 refl refl, spells_digits 55 102 refl refl), refl),
  )
      (λ c. same_ascii_apart o.case_insensitive c ∙ ap (λ q. is_between (0x00, 0x7F) c && not (q && (c == slash))) (sym e))
  ascii_class false e = has_class_of (span 0x00 0x7F ∷ []) (codes "\\x00-\\x7f") (is_ascii_wild o) (omega arith)
      (codes "\\x00-\\x7f", [], refl, (codes "\\x00", codes "\\x7f", refl, spells_digits 48 48 refl refl, spells_digits 55 102 refl refl), refl)
      (λ c. same_ascii o.case_insensitive c ∙ and_true (is_between (0x00, 0x7F) c) ∙ ap (λ q. is_between (0x00, 0x7F) c && not (q && (c == slash))) (sym e))
    where
      and_true : (p : Bool) → p ≡ (p && true)
      and_true true = refl
      and_true false = refl

  -- one row more
  has_row_more : (t : List ℕ) (ts : List (List ℕ)) (tests : List (ℕ → Bool)) (rows : List (List (ℕ → Bool))) → HasRow t (Passes tests) → HasSome ts (SomeRow rows)
      → HasSome (t ∷ ts) (SomeRow (tests ∷ rows))
  has_row_more t ts tests rows first others = some_same (t ∷ ts) (λ b. Passes tests b ⊎ SomeRow rows b) (SomeRow (tests ∷ rows))
      (λ b. (
        λ h. ⊎_elim {C = SomeRow (tests ∷ rows) b} (λ p. or_first (passes tests b) (some_row rows b) p) (λ p. or_second (passes tests b) (some_row rows b) p) h,
        λ h. or_either (passes tests b) (some_row rows b) h,
      ))
      (has_more t ts (Passes tests) (SomeRow rows) first others)

  has_no_row : HasSome [] (SomeRow [])
  has_no_row = some_same [] (λ b. ⊥) (SomeRow []) (λ b. (λ h. absurd h, λ h. true≢false (sym h))) has_no_more

  has_high : (x : ℕ) → 128 ≤ x → x < 256 → HasRow (byte_text x) (Passes (is_between (x, x) ∷ []))
  has_high x high below = has_byte x (byte_text x) high (spells_byte x below)

  has_range : (x y : ℕ) → 128 ≤ x → x < 256 → y < 256 → HasRow (codes "[" ++ (byte_text x ++ codes "-" ++ byte_text y) ++ codes "]") (Passes (is_between (x, y) ∷ []))
  has_range x y high below within = has_span x y (byte_text x) (byte_text y) high (spells_byte x below) (spells_byte y within)

  -- the longer characters, row by row

  has_two_bytes : HasRow (codes "[\\xc2-\\xdf][\\x80-\\xbf]") (Passes (is_between (0xC2, 0xDF) ∷ continues ∷ []))
  has_two_bytes = has_more_tests (codes "[\\xc2-\\xdf]") (codes "[\\x80-\\xbf]") (is_between (0xC2, 0xDF)) (continues ∷ []) (has_range 0xC2 0xDF (omega arith) (omega arith) (omega arith)) has_continues

  has_e0 : HasRow (codes "\\xe0[\\xa0-\\xbf][\\x80-\\xbf]") (Passes (is_between (0xE0, 0xE0) ∷ is_between (0xA0, 0xBF) ∷ continues ∷ []))
  has_e0 = has_more_tests (codes "\\xe0") (codes "[\\xa0-\\xbf]" ++ codes "[\\x80-\\xbf]") (is_between (0xE0, 0xE0)) (is_between (0xA0, 0xBF) ∷ continues ∷ []) (has_high 0xE0 (omega arith) (omega arith))
      (has_more_tests (codes "[\\xa0-\\xbf]") (codes "[\\x80-\\xbf]") (is_between (0xA0, 0xBF)) (continues ∷ []) (has_range 0xA0 0xBF (omega arith) (omega arith) (omega arith)) has_continues)

  has_e1_to_ec : HasRow (codes "[\\xe1-\\xec][\\x80-\\xbf][\\x80-\\xbf]") (Passes (is_between (0xE1, 0xEC) ∷ continues ∷ continues ∷ []))
  has_e1_to_ec = has_more_tests (codes "[\\xe1-\\xec]") (codes "[\\x80-\\xbf][\\x80-\\xbf]") (is_between (0xE1, 0xEC)) (continues ∷ continues ∷ []) (has_range 0xE1 0xEC (omega arith) (omega arith) (omega arith)) has_two

  has_ed : HasRow (codes "\\xed[\\x80-\\x9f][\\x80-\\xbf]") (Passes (is_between (0xED, 0xED) ∷ is_between (0x80, 0x9F) ∷ continues ∷ []))
  has_ed = has_more_tests (codes "\\xed") (codes "[\\x80-\\x9f]" ++ codes "[\\x80-\\xbf]") (is_between (0xED, 0xED)) (is_between (0x80, 0x9F) ∷ continues ∷ []) (has_high 0xED (omega arith) (omega arith))
      (has_more_tests (codes "[\\x80-\\x9f]") (codes "[\\x80-\\xbf]") (is_between (0x80, 0x9F)) (continues ∷ []) (has_range 0x80 0x9F (omega arith) (omega arith) (omega arith)) has_continues)

  has_ee_to_ef : HasRow (codes "[\\xee-\\xef][\\x80-\\xbf][\\x80-\\xbf]") (Passes (is_between (0xEE, 0xEF) ∷ continues ∷ continues ∷ []))
  has_ee_to_ef = has_more_tests (codes "[\\xee-\\xef]") (codes "[\\x80-\\xbf][\\x80-\\xbf]") (is_between (0xEE, 0xEF)) (continues ∷ continues ∷ []) (has_range 0xEE 0xEF (omega arith) (omega arith) (omega arith)) has_two

  has_f0 : HasRow (codes "\\xf0[\\x90-\\xbf][\\x80-\\xbf][\\x80-\\xbf]") (Passes (is_between (0xF0, 0xF0) ∷ is_between (0x90, 0xBF) ∷ continues ∷ continues ∷ []))
  has_f0 = has_more_tests (codes "\\xf0") (codes "[\\x90-\\xbf]" ++ codes "[\\x80-\\xbf][\\x80-\\xbf]") (is_between (0xF0, 0xF0)) (is_between (0x90, 0xBF) ∷ continues ∷ continues ∷ []) (has_high 0xF0 (omega arith) (omega arith))
      (has_more_tests (codes "[\\x90-\\xbf]") (codes "[\\x80-\\xbf][\\x80-\\xbf]") (is_between (0x90, 0xBF)) (continues ∷ continues ∷ []) (has_range 0x90 0xBF (omega arith) (omega arith) (omega arith)) has_two)

  has_f1_to_f3 : HasRow (codes "[\\xf1-\\xf3][\\x80-\\xbf][\\x80-\\xbf][\\x80-\\xbf]") (Passes (is_between (0xF1, 0xF3) ∷ continues ∷ continues ∷ continues ∷ []))
  has_f1_to_f3 = has_more_tests (codes "[\\xf1-\\xf3]") (codes "[\\x80-\\xbf][\\x80-\\xbf][\\x80-\\xbf]") (is_between (0xF1, 0xF3)) (continues ∷ continues ∷ continues ∷ []) (has_range 0xF1 0xF3 (omega arith) (omega arith) (omega arith)) has_three

  has_f4 : HasRow (codes "\\xf4[\\x80-\\x8f][\\x80-\\xbf][\\x80-\\xbf]") (Passes (is_between (0xF4, 0xF4) ∷ is_between (0x80, 0x8F) ∷ continues ∷ continues ∷ []))
  has_f4 = has_more_tests (codes "\\xf4") (codes "[\\x80-\\x8f]" ++ codes "[\\x80-\\xbf][\\x80-\\xbf]") (is_between (0xF4, 0xF4)) (is_between (0x80, 0x8F) ∷ continues ∷ continues ∷ []) (has_high 0xF4 (omega arith) (omega arith))
      (has_more_tests (codes "[\\x80-\\x8f]") (codes "[\\x80-\\xbf][\\x80-\\xbf]") (is_between (0x80, 0x8F)) (continues ∷ continues ∷ []) (has_range 0x80 0x8F (omega arith) (omega arith) (omega arith)) has_two)

  has_character : HasRow (group_text (ascii_text o ∷ longer_texts)) (λ b. IsTrue (is_wild_character o b))
  has_character = has_same (group_text (ascii_text o ∷ longer_texts)) (SomeRow (regex_rows o)) (λ b. IsTrue (is_wild_character o b))
      (λ b. (λ h. sym (regex_rows_are o b) ∙ h, λ h. regex_rows_are o b ∙ h))
      (has_group (ascii_text o) longer_texts (SomeRow (regex_rows o))
      (has_row_more (ascii_text o) longer_texts (is_ascii_wild o ∷ []) (drop 1 (regex_rows o)) (ascii_class o.literal_separator refl)
      (has_row_more (codes "[\\xc2-\\xdf][\\x80-\\xbf]") (drop 1 longer_texts) (is_between (0xC2, 0xDF) ∷ continues ∷ []) (drop 2 (regex_rows o)) has_two_bytes
      (has_row_more (codes "\\xe0[\\xa0-\\xbf][\\x80-\\xbf]") (drop 2 longer_texts) (is_between (0xE0, 0xE0) ∷ is_between (0xA0, 0xBF) ∷ continues ∷ []) (drop 3 (regex_rows o)) has_e0
      (has_row_more (codes "[\\xe1-\\xec][\\x80-\\xbf][\\x80-\\xbf]") (drop 3 longer_texts) (is_between (0xE1, 0xEC) ∷ continues ∷ continues ∷ []) (drop 4 (regex_rows o)) has_e1_to_ec
      (has_row_more (codes "\\xed[\\x80-\\x9f][\\x80-\\xbf]") (drop 4 longer_texts) (is_between (0xED, 0xED) ∷ is_between (0x80, 0x9F) ∷ continues ∷ []) (drop 5 (regex_rows o)) has_ed
      (has_row_more (codes "[\\xee-\\xef][\\x80-\\xbf][\\x80-\\xbf]") (drop 5 longer_texts) (is_between (0xEE, 0xEF) ∷ continues ∷ continues ∷ []) (drop 6 (regex_rows o)) has_ee_to_ef
      (has_row_more (codes "\\xf0[\\x90-\\xbf][\\x80-\\xbf][\\x80-\\xbf]") (drop 6 longer_texts) (is_between (0xF0, 0xF0) ∷ is_between (0x90, 0xBF) ∷ continues ∷ continues ∷ []) (drop 7 (regex_rows o)) has_f0
      (has_row_more (codes "[\\xf1-\\xf3][\\x80-\\xbf][\\x80-\\xbf][\\x80-\\xbf]") (drop 7 longer_texts) (is_between (0xF1, 0xF3) ∷ continues ∷ continues ∷ continues ∷ []) (drop 8 (regex_rows o)) has_f1_to_f3
      (has_row_more (codes "\\xf4[\\x80-\\x8f][\\x80-\\xbf][\\x80-\\xbf]") (drop 8 longer_texts) (is_between (0xF4, 0xF4) ∷ is_between (0x80, 0x8F) ∷ continues ∷ continues ∷ []) (drop 9 (regex_rows o)) has_f4
      has_no_row))))))))))

  has_any : (q : Bool) → o.whole_character ≡ q
      → HasRow (if q then group_text (ascii_text o ∷ longer_texts) else (if o.literal_separator then codes "[^/]" else codes ".")) (TokenMatches o Any)
  has_any true e = has_same (group_text (ascii_text o ∷ longer_texts)) (λ b. IsTrue (is_wild_character o b)) (TokenMatches o Any) (λ b. rw e (λ h. h, λ h. h)) has_character
  has_any false e = has_same (if o.literal_separator then codes "[^/]" else codes ".") (λ b. IsTrue (is_one_byte (is_wild o) b)) (TokenMatches o Any) (λ b. rw e (λ h. h, λ h. h))
      (has_one o.literal_separator refl)

  -- ---- recursive stars

  abbrev IsSlash : List ℕ → Type 0
  IsSlash b = b ≡ slash ∷ []

  has_to_slash : HasRow (codes ".*/") (Then Everything IsSlash)
  has_to_slash = has_then (codes ".*") (codes "/") Everything IsSlash has_everything has_slash

  has_suffix : HasRow (codes "/.*") (TokenMatches o RecursiveSuffix)
  has_suffix = has_same (codes "/.*") (Then IsSlash Everything) (TokenMatches o RecursiveSuffix)
      (λ b. iff_trans (λ (x, y, cut, is, h). (y, cut ∙ ap (λ l. l ++ y) is), λ (x, e). (slash ∷ [], x, e, refl, tt)) (suffix_matches o b))
      (has_then (codes "/") (codes ".*") IsSlash Everything has_slash has_everything)

  abbrev MaybeSlash : List ℕ → Type 0
  MaybeSlash = DenotesItem o.case_insensitive (optional (byte slash))

  has_maybe_slash : HasRow (codes "/?") MaybeSlash
  has_maybe_slash = has_item (optional (byte slash)) (codes "/?") (codes "/", refl, spells_byte slash (omega arith))

  -- what the rows of `(?:/?|.*/)` denote
  abbrev InPrefix : List ℕ → Type 0
  InPrefix b = MaybeSlash b ⊎ (Then Everything IsSlash b ⊎ ⊥)

  in_prefix : (b : List ℕ) → InPrefix b ↔ ((b ≡ []) ⊎ ((x : List ℕ) × (b ≡ x ++ slash ∷ [])))
  in_prefix b = (there, back)
    where
      there : InPrefix b → (b ≡ []) ⊎ ((x : List ℕ) × (b ≡ x ++ slash ∷ []))
      there (inl (inl nil)) = inl nil
      there (inl (inr (c, is, h))) = inr ([], is ∙ ap (λ d. d ∷ []) (slash_byte o.case_insensitive c h))
      there (inr (inl (x, y, cut, all, is))) = inr (x, cut ∙ ap (λ l. x ++ l) is)
      there (inr (inr none_left)) = absurd none_left

      back : (b ≡ []) ⊎ ((x : List ℕ) × (b ≡ x ++ slash ∷ [])) → InPrefix b
      back (inl nil) = inl (inl nil)
      back (inr (x, e)) = inr (inl (x, slash ∷ [], e, tt, refl))

  has_prefix : HasRow (codes "(?:/?|.*/)") (TokenMatches o RecursivePrefix)
  has_prefix = has_same (codes "(?:/?|.*/)") InPrefix (TokenMatches o RecursivePrefix) (λ b. iff_trans (in_prefix b) (prefix_matches o b))
      (has_group (codes "/?") (codes ".*/" ∷ []) InPrefix
      (has_more (codes "/?") (codes ".*/" ∷ []) MaybeSlash (λ b. Then Everything IsSlash b ⊎ ⊥) has_maybe_slash
      (has_more (codes ".*/") [] (Then Everything IsSlash) (λ b. ⊥) has_to_slash has_no_more)))

  -- what the rows of `(?:/|/.*/)` denote
  abbrev InBetween : List ℕ → Type 0
  InBetween b = IsSlash b ⊎ (Then IsSlash (Then Everything IsSlash) b ⊎ ⊥)

  in_between : (b : List ℕ) → InBetween b ↔ ((b ≡ slash ∷ []) ⊎ ((x : List ℕ) × (b ≡ slash ∷ (x ++ slash ∷ []))))
  in_between b = (there, back)
    where
      there : InBetween b → (b ≡ slash ∷ []) ⊎ ((x : List ℕ) × (b ≡ slash ∷ (x ++ slash ∷ [])))
      there (inl e) = inl e
      there (inr (inl (x, y, cut, is, (u, v, parts, all, at)))) = inr (u, cut ∙ ap (λ l. l ++ y) is ∙ ap (λ l. slash ∷ l) (parts ∙ ap (λ l. u ++ l) at))
      there (inr (inr none_left)) = absurd none_left

      back : (b ≡ slash ∷ []) ⊎ ((x : List ℕ) × (b ≡ slash ∷ (x ++ slash ∷ []))) → InBetween b
      back (inl e) = inl e
      back (inr (x, e)) = inr (inl (slash ∷ [], x ++ slash ∷ [], e, refl, (x, slash ∷ [], refl, tt, refl)))

  has_between : HasRow (codes "(?:/|/.*/)") (TokenMatches o RecursiveZeroOrMore)
  has_between = has_same (codes "(?:/|/.*/)") InBetween (TokenMatches o RecursiveZeroOrMore) (λ b. iff_trans (in_between b) (between_matches o b))
      (has_group (codes "/") (codes "/.*/" ∷ []) InBetween
      (has_more (codes "/") (codes "/.*/" ∷ []) IsSlash (λ b. Then IsSlash (Then Everything IsSlash) b ⊎ ⊥) has_slash
      (has_more (codes "/.*/") [] (Then IsSlash (Then Everything IsSlash)) (λ b. ⊥)
      (has_then (codes "/") (codes ".*/") IsSlash (Then Everything IsSlash) has_slash has_to_slash) has_no_more)))

  -- ---- classes

  -- entries with the bytes of the ranges make a class with the same bytes
  class_same : (negated : Bool) (es : List Entry) (rs : List (ℕ × ℕ)) → ((c : ℕ) → entries_have es c ≡ ranges_have rs c)
      → (c : ℕ) → class_of_has o.case_insensitive negated es c ≡ class_has o negated rs c
  class_same negated es rs same c = rw (same c, same (to_ascii_lowercase c), same (to_ascii_uppercase c)) refl

  has_class : (negated : Bool) (rs : List (ℕ × ℕ)) → AreScalars rs → 1 ≤ length rs → HasRow (class_text negated rs) (TokenMatches o (Class negated rs))
  has_class negated rs scalars some =
      let (es, spelled, same, long) = has_ranges rs scalars in
      has_same (class_text negated rs) (DenotesItem o.case_insensitive (once (class_of negated es))) (TokenMatches o (Class negated rs))
      (λ b. iff_trans
      (λ (c, is, h). (c, is, sym (class_same negated es rs same c) ∙ h), λ (c, is, h). (c, is, class_same negated es rs same c ∙ h))
      (one_byte (class_has o negated rs) b))
      (has_item (once (class_of negated es)) (class_text negated rs) (ranges_text rs, refl, spelled, omega arith))

  -- ---- branches

  abbrev SomeMatch : Branches → List ℕ → Type 0
  SomeMatch bs b = IsTrue (some_branch_matches o bs b)

  abbrev some_text : List (List ℕ) → Bool
  some_text [] = false
  some_text (t ∷ ts) = true

  some_text_with : (kept : Bool) (t : List ℕ) (ts : List (List ℕ)) → (kept || some_text ts) ≡ some_text (with_text kept t ts)
  some_text_with true t ts = refl
  some_text_with false t ts = refl

  -- a branch is kept where one has a text
  kept_is : (bs : Branches) → any_kept o bs ≡ some_text (kept_texts o bs)
  kept_is none = refl
  kept_is (branch ts bs) = ap (λ k. is_kept o ts || k) (kept_is bs) ∙ some_text_with (is_kept o ts) (tokens_text o ts) (kept_texts o bs)

  -- a group's text, by the texts of its kept branches
  group_has : (bs : Branches) (texts : List (List ℕ)) → kept_texts o bs ≡ texts → HasSome texts (SomeMatch bs) → HasRow (group_text texts) (TokenMatches o (Group bs))
  group_has bs [] e h =
      let dropped : any_kept o bs ≡ false = kept_is bs ∙ ap some_text e in
      has_same [] (λ b. b ≡ []) (TokenMatches o (Group bs))
      (λ b. (
        λ nil. or_second (some_branch_matches o bs b) (not (any_kept o bs) && is_empty b) (rw dropped (ap is_empty nil)),
        λ taken. ⊎_elim {C = b ≡ []}
            (λ some. absurd (true≢false (sym (some_any o bs b some) ∙ dropped)))
            (λ empty. (empty_same b).1 (and_second (not (any_kept o bs)) (is_empty b) empty))
            (or_either (some_branch_matches o bs b) (not (any_kept o bs) && is_empty b) taken),
      ))
      has_none
  group_has bs (t ∷ ts) e h =
      let any : any_kept o bs ≡ true = kept_is bs ∙ ap some_text e in
      has_same (group_text (t ∷ ts)) (SomeMatch bs) (TokenMatches o (Group bs))
      (λ b. (
        λ some. or_first (some_branch_matches o bs b) (not (any_kept o bs) && is_empty b) some,
        λ taken. ⊎_elim {C = SomeMatch bs b}
            (λ some. some)
            (λ empty. absurd (true≢false (sym (and_first (not (any_kept o bs)) (is_empty b) empty) ∙ ap not any)))
            (or_either (some_branch_matches o bs b) (not (any_kept o bs) && is_empty b) taken),
      ))
      (has_group t ts (SomeMatch bs) h)

  -- one branch more, kept or not
  branch_has : (ts : Tokens) (bs : Branches) (kept : Bool) → is_kept o ts ≡ kept → HasRow (tokens_text o ts) (AllMatch o ts) → HasSome (kept_texts o bs) (SomeMatch bs)
      → HasSome (with_text kept (tokens_text o ts) (kept_texts o bs)) (SomeMatch (branch ts bs))
  branch_has ts bs true e first others = some_same (tokens_text o ts ∷ kept_texts o bs) (λ b. AllMatch o ts b ⊎ SomeMatch bs b) (SomeMatch (branch ts bs))
      (λ b. (
        λ h. ⊎_elim {C = SomeMatch (branch ts bs) b}
            (λ this. or_first (is_kept o ts && tokens_match_each o ts b) (some_branch_matches o bs b) (and_both (is_kept o ts) (tokens_match_each o ts b) e this))
            (λ other. or_second (is_kept o ts && tokens_match_each o ts b) (some_branch_matches o bs b) other)
            h,
        λ h. ⊎_elim {C = AllMatch o ts b ⊎ SomeMatch bs b}
            (λ this. inl (and_second (is_kept o ts) (tokens_match_each o ts b) this))
            (λ other. inr other)
            (or_either (is_kept o ts && tokens_match_each o ts b) (some_branch_matches o bs b) h),
      ))
      (has_more (tokens_text o ts) (kept_texts o bs) (AllMatch o ts) (SomeMatch bs) first others)
  branch_has ts bs false e first others = some_same (kept_texts o bs) (SomeMatch bs) (SomeMatch (branch ts bs))
      (λ b. (
        λ other. or_second (is_kept o ts && tokens_match_each o ts b) (some_branch_matches o bs b) other,
        λ h. ⊎_elim {C = SomeMatch bs b}
            (λ this. absurd (true≢false (sym (and_first (is_kept o ts) (tokens_match_each o ts b) this) ∙ e)))
            (λ other. other)
            (or_either (is_kept o ts && tokens_match_each o ts b) (some_branch_matches o bs b) h),
      ))
      others

  -- no branches
  no_branch_has : HasSome [] (SomeMatch none)
  no_branch_has = some_same [] (λ b. ⊥) (SomeMatch none) (λ b. (λ h. absurd h, λ h. true≢false (sym h))) has_no_more

  -- ---- all tokens

  mutual
    tokens_have : (ts : Tokens) → AreWellFormed ts → HasRow (tokens_text o ts) (AllMatch o ts)
    tokens_have end w = has_same [] (λ b. b ≡ []) (AllMatch o end) empty_same has_none
    tokens_have (and_then t ts) (first, rest) = has_same (token_text o t ++ tokens_text o ts) (Then (TokenMatches o t) (AllMatch o ts)) (AllMatch o (and_then t ts)) (then_matches o t ts)
        (has_then (token_text o t) (tokens_text o ts) (TokenMatches o t) (AllMatch o ts) (token_has t first) (tokens_have ts rest))

    token_has : (t : Token) → IsWellFormed t → HasRow (token_text o t) (TokenMatches o t)
    token_has (Literal c) w = has_same (bytes_text (encode_utf8 c)) (IsSpelled o (encode_utf8 c)) (TokenMatches o (Literal c))
        (λ b. equal_bytes (compared o b) (compared o (encode_utf8 c)))
        (spelled_has (encode_utf8 c) (encode_below c w))
    token_has Any w = has_any o.whole_character refl
    token_has ZeroOrMore w = has_star o.literal_separator refl
    token_has RecursivePrefix w = has_prefix
    token_has RecursiveSuffix w = has_suffix
    token_has RecursiveZeroOrMore w = has_between
    token_has (Class negated rs) (scalars, some) = has_class negated rs scalars some
    token_has (Group bs) w = group_has bs (kept_texts o bs) refl (branches_have bs w)

    branches_have : (bs : Branches) → AllWellFormed bs → HasSome (kept_texts o bs) (SomeMatch bs)
    branches_have none w = no_branch_has
    branches_have (branch ts bs) (first, rest) = branch_has ts bs (is_kept o ts) refl (tokens_have ts first) (branches_have bs rest)

  -- ---- the whole glob

  abbrev GlobMatches : Tokens → List ℕ → Type 0
  GlobMatches ts b = IsTrue (tokens_match o ts b)

  -- the body denotes what the tokens match
  body_has : (ts : Tokens) → AreWellFormed ts → (alone : Bool) → is_prefix_alone ts ≡ alone → HasRow (if alone then codes ".*" else tokens_text o ts) (GlobMatches ts)
  body_has ts w true e = has_same (codes ".*") Everything (GlobMatches ts) (λ b. (λ h. or_first (is_prefix_alone ts) (tokens_match_each o ts b) e, λ h. tt)) has_everything
  body_has ts w false e = has_same (tokens_text o ts) (AllMatch o ts) (GlobMatches ts)
      (λ b. (
        λ taken. or_second (is_prefix_alone ts) (tokens_match_each o ts b) taken,
        λ h. ⊎_elim {C = AllMatch o ts b} (λ alone. absurd (true≢false (sym alone ∙ e))) (λ taken. taken) (or_either (is_prefix_alone ts) (tokens_match_each o ts b) h),
      ))
      (tokens_have ts w)

  -- the text of well-formed tokens denotes what they match
  pub regex_has : (ts : Tokens) → AreWellFormed ts → HasExpression (tokens_match o ts) (regex_text o ts)
  regex_has ts w = let (r, spelled, same) = body_has ts w (is_prefix_alone ts) refl in (
    expression o.case_insensitive r,
    (body_text o ts, refl, spelled),
    λ b bytes. (λ h. (same b).0 h.1, λ m. (bytes, (same b).1 m)),
  )
