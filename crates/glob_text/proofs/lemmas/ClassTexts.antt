-- The text of a class's ranges is that of entries which have the same bytes.
use Rattle.std.proofs.Common.{◌≡◌, ℕ, ◌+◌, ◌<◌, ◌≤◌, Bool, true, false, ◌&&◌, ◌||◌, List, [], ◌∷◌, ◌++◌, length, refl, ap, sym, ◌∙◌, subst, arith}
use Rattle.std.specs.Prelude.{◌==◌, nat_le, encode_utf8, codes}
use Rattle.std.specs.Char.{IsScalar}
use Rattle.std.proofs.lemmas.List.{append-nil, append_assoc, length-append}
use Rattle.bit_sets.proofs.lemmas.Booleans.{or_assoc}
use Rattle.glob_syntax.specs.ClassBytes.{is_one_of, is_from_last, is_spanned, range_has, ranges_have}
use Rattle.glob_text.specs.SmallRegex.{Entry, single, span, SpellsEntries, entry_has, entries_have}
use Rattle.glob_text.specs.RegexText.{byte_text, bytes_text, char_text, range_text, ranges_text}
use Rattle.glob_syntax.specs.inner.WellFormed.{AreScalars}
use Rattle.glob_text.proofs.lemmas.ByteTexts.{Below, spells_byte, encode_below}
use Rattle.glob_syntax.proofs.lemmas.Weights.{encode_some}

-- the text is that of at least n entries, which have the bytes of a test
abbrev pub HasEntries : ℕ → List ℕ → (ℕ → Bool) → Type 0
HasEntries n t p = (es : List Entry) × SpellsEntries es t × ((c : ℕ) → entries_have es c ≡ p c) × (n ≤ length es)

-- the entries of two texts, one after the other
spells_both : (es fs : List Entry) (t u : List ℕ) → SpellsEntries es t → SpellsEntries fs u → SpellsEntries (es ++ fs) (t ++ u)
spells_both [] fs t u e h = subst (λ l. SpellsEntries fs (l ++ u)) (sym e) h
spells_both (e ∷ es) fs t u (v, w, cut, first, rest) h = (v, w ++ u, ap (λ l. l ++ u) cut ∙ append_assoc v w u, first, spells_both es fs w u rest h)

-- they have the bytes of both
both_have : (es fs : List Entry) (c : ℕ) → entries_have (es ++ fs) c ≡ (entries_have es c || entries_have fs c)
both_have [] fs c = refl
both_have (e ∷ es) fs c = ap (λ q. entry_has e c || q) (both_have es fs c) ∙ or_assoc (entry_has e c) (entries_have es c) (entries_have fs c)

-- so two texts of entries make one
has_both : (n m : ℕ) (t u : List ℕ) (p q : ℕ → Bool) → HasEntries n t p → HasEntries m u q → HasEntries (n + m) (t ++ u) (λ c. p c || q c)
has_both n m t u p q (es, spelled, same, long) (fs, spelled', same', long') = (
  es ++ fs,
  spells_both es fs t u spelled spelled',
  λ c. rw (both_have es fs c, same c, same' c) refl,
  rw (length-append es fs) (omega arith),
)

-- bytes, each by itself
has_singles : (xs : List ℕ) → Below xs → HasEntries (length xs) (bytes_text xs) (λ c. is_one_of c xs)
has_singles [] h = ([], refl, λ c. refl, omega arith)
has_singles (x ∷ xs) (h, hs) = let (es, spelled, same, long) = has_singles xs hs in (
  single x ∷ es,
  (byte_text x, bytes_text xs, refl, spells_byte x h, spelled),
  λ c. ap (λ q. (c == x) || q) (same c),
  omega arith,
)

-- a range of two characters, by their bytes
has_span : (xs : List ℕ) (y : ℕ) (ys : List ℕ) → Below xs → y < 256 → Below ys → 1 ≤ length xs
    → HasEntries 1 (bytes_text xs ++ codes "-" ++ (byte_text y ++ bytes_text ys)) (λ c. is_from_last c xs y || is_one_of c ys)
has_span [] y ys hxs hy hys some = absurd (omega arith)
has_span (x ∷ []) y ys hxs hy hys some = let (es, spelled, same, long) = has_singles ys hys in (
  span x y ∷ es,
  (byte_text x ++ codes "-" ++ byte_text y, bytes_text ys, simp (append-nil, append_assoc) refl, (byte_text x, byte_text y, refl, spells_byte x hxs.0, spells_byte y hy), spelled),
  λ c. ap (λ q. (nat_le x c && nat_le c y) || q) (same c),
  omega arith,
)
has_span (x ∷ z ∷ zs) y ys hxs hy hys some = let (es, spelled, same, long) = has_span (z ∷ zs) y ys hxs.1 hy hys (omega arith) in (
  single x ∷ es,
  (byte_text x, bytes_text (z ∷ zs) ++ codes "-" ++ (byte_text y ++ bytes_text ys), simp append_assoc refl, spells_byte x hxs.0, spelled),
  λ c. ap (λ q. (c == x) || q) (same c) ∙ or_assoc (c == x) (is_from_last c (z ∷ zs) y) (is_one_of c ys),
  omega arith,
)

-- a range, as its bytes are had
has_range : (x y : ℕ) → IsScalar x → IsScalar y → HasEntries 1 (range_text (x, y)) (λ c. range_has (x, y) c)
has_range x y hx hy = by_case (x == y) refl
  where
    spanned : (ys : List ℕ) → Below ys → 1 ≤ length ys → HasEntries 1 (char_text x ++ codes "-" ++ bytes_text ys) (λ c. is_spanned c (encode_utf8 x) ys)
    spanned [] hys some = absurd (omega arith)
    spanned (d ∷ ds) hys some = has_span (encode_utf8 x) d ds (encode_below x hx) hys.0 hys.1 (encode_some x)

    by_case : (q : Bool) → (x == y) ≡ q → HasEntries 1 (range_text (x, y)) (λ c. range_has (x, y) c)
    by_case true e = let (es, spelled, same, long) = has_singles (encode_utf8 x) (encode_below x hx) in
        (es, rw e spelled, λ c. rw e (same c), omega (arith, encode_some x))
    by_case false e = let (es, spelled, same, long) = spanned (encode_utf8 y) (encode_below y hy) (encode_some y) in
        (es, rw e spelled, λ c. rw e (same c), long)

-- all ranges of a class
pub has_ranges : (rs : List (ℕ × ℕ)) → AreScalars rs → HasEntries (length rs) (ranges_text rs) (ranges_have rs)
has_ranges [] h = ([], refl, λ c. refl, omega arith)
has_ranges ((x, y) ∷ rs) (hx, hy, hs) =
    let (es, spelled, same, long) = has_both 1 (length rs) (range_text (x, y)) (ranges_text rs) (λ c. range_has (x, y) c) (ranges_have rs) (has_range x y hx hy) (has_ranges rs hs) in
    (es, spelled, same, omega arith)
