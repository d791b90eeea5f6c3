-- An escaped text matches that text and no other path.
use Rattle.std.proofs.Common.{◌≡◌, ◌↔◌, ℕ, List, [], ◌∷◌, ◌++◌, Bool, true, false, true≢false, ◌||◌, ◌&&◌, not, ◌==◌, Ok, is_ok, IsTrue, refl, ap, sym, ◌∙◌, subst, encode_utf8_all, IsUtf8}
use Rattle.std.specs.Prelude.{if◌then◌else◌}
use Rattle.std.specs.Char.{encode_utf8}
use Rattle.std.specs.Str.{chars, all_scalars}
use Rattle.std.specs.List.{list_all}
use Rattle.std.proofs.lemmas.Bool.{eqb-true}
use Rattle.std.proofs.lemmas.Bool.Decides.{Decides-eqb}
use Rattle.std.proofs.lemmas.Slice.Eq.{bytes_eq-Decides}
use Rattle.std.proofs.lemmas.Str.{chars-encodes, encodes-chars, scalars-chars}
use Rattle.std.proofs.Math.Bool.{and-true, or-false}
use Rattle.glob_syntax.specs.declared.options.Options.{Options}
use Rattle.glob_syntax.specs.ClassBytes.{ranges_have, class_has}
use Rattle.glob_syntax.specs.TokenMatches.{token_matches, tokens_match_each, compared}
use Rattle.bit_sets.specs.Texts.{is_empty, is_one_byte}
use Rattle.glob_syntax.specs.Token.{Literal}
use Rattle.glob_syntax.specs.Token as token
use Rattle.glob_syntax.specs.Reading.{reading}
use Rattle.glob_text.specs.GlobMatches.{default_glob, default_options, glob_matches}
use Rattle.glob_syntax.specs.TokensMatch.{is_prefix, is_prefix_alone}
use Rattle.glob_text.specs.Escape.{is_special, escaped_chars, escaped, has_no_backslash, plain_options, MeansOnly}
use Rattle.bit_sets.proofs.lemmas.Booleans.{and_both, and_first, and_second, and_none}
use Rattle.bit_sets.proofs.lemmas.Cuts.{cut_of, some_cut-append, empty_is}
use Rattle.glob_text.proofs.lemmas.Globs.{means_is}
use Rattle.glob_text.proofs.lemmas.EscapeReading.{by_special, NoEscape, token_as, token_for, tokens_for, escaped_reads}

-- ---- one token

literal_matches : (o : Options) (c : ℕ) (b : List ℕ) → o.case_insensitive ≡ false → IsTrue (token_matches o (Literal c) b) ↔ (b ≡ encode_utf8 c)
literal_matches o c b i =
    rw (i, token_matches, compared) (bytes_eq-Decides b (encode_utf8 c))

-- a class of one ASCII character, of which `alone` are the bytes
one_byte_matches : (k : ℕ) (test : ℕ → Bool) (b : List ℕ) → ((byte : ℕ) → test byte ≡ (byte == k)) → IsTrue (is_one_byte test b) ↔ (b ≡ k ∷ [])
one_byte_matches k test [] same = ((λ h. absurd (true≢false (sym h))), (λ e. absurd (cc)))
one_byte_matches k test (c ∷ []) same = ((λ h. ap (λ x. x ∷ []) (eqb-true c k (sym (same c) ∙ h))), (λ e. same c ∙ (Decides-eqb c k).1 (cc)))
one_byte_matches k test (c ∷ d ∷ rest) same = ((λ h. absurd (true≢false (sym h))), (λ e. absurd (cc)))

one_byte : (c : ℕ) → is_special c ≡ true → encode_utf8 c ≡ c ∷ []
unfolding encode_utf8
one_byte c s = by_special (λ k. encode_utf8 k ≡ k ∷ []) refl refl refl refl refl refl c s

ranges_are : (c : ℕ) (byte : ℕ) → is_special c ≡ true → ranges_have ((c, c) ∷ []) byte ≡ (byte == c)
unfolding encode_utf8
ranges_are c byte s =
    by_special (λ k. ranges_have ((k, k) ∷ []) byte ≡ (byte == k))
    (or-false _ ∙ or-false _) (or-false _ ∙ or-false _) (or-false _ ∙ or-false _) (or-false _ ∙ or-false _) (or-false _ ∙ or-false _) (or-false _ ∙ or-false _)
    c s

class_is : (o : Options) (c : ℕ) (byte : ℕ) → o.case_insensitive ≡ false → is_special c ≡ true → class_has o false ((c, c) ∷ []) byte ≡ (byte == c)
class_is o c byte i s = rw i (or-false _ ∙ ranges_are c byte s)

special_matches : (o : Options) (c : ℕ) (b : List ℕ) → o.case_insensitive ≡ false → is_special c ≡ true → IsTrue (token_matches o (token.Class false ((c, c) ∷ [])) b) ↔ (b ≡ encode_utf8 c)
special_matches o c b i s = rw (one_byte c s) (one_byte_matches c (class_has o false ((c, c) ∷ [])) b (λ byte. class_is o c byte i s))

matches_as : (o : Options) (c : ℕ) (b : List ℕ) (t : Bool) → o.case_insensitive ≡ false → t ≡ is_special c → IsTrue (token_matches o (token_as t c) b) ↔ (b ≡ encode_utf8 c)
matches_as o c b true i e = special_matches o c b i (sym e)
matches_as o c b false i e = literal_matches o c b i

-- ---- all tokens

all_take : (o : Options) (cs b : List ℕ) → o.case_insensitive ≡ false → IsTrue (tokens_match_each o (tokens_for cs) b) ↔ (b ≡ encode_utf8_all cs)
all_take o [] b i = (empty_is b, λ e. subst (λ x. IsTrue (is_empty x)) (sym e) refl)
all_take o (c ∷ cs) b i =
    let test : List ℕ → List ℕ → Bool = λ x y. token_matches o (token_for c) x && tokens_match_each o (tokens_for cs) y in (
      λ h. let r = cut_of test b h in
          r.2
          ∙ ap (λ x. x ++ r.1) ((matches_as o c r.0 (is_special c) i refl).0 (and_first _ _ r.3))
          ∙ ap (λ y. encode_utf8 c ++ y) ((all_take o cs r.1 i).0 (and_second _ _ r.3)),
      λ e. subst (λ x. IsTrue (tokens_match_each o (tokens_for (c ∷ cs)) x)) (sym e)
          (some_cut-append test (encode_utf8 c) (encode_utf8_all cs)
          (and_both _ _ ((matches_as o c _ (is_special c) i refl).1 refl) ((all_take o cs _ i).1 refl))),
    )

no_prefix_as : (t : Bool) (c : ℕ) → is_prefix (token_as t c) ≡ false
no_prefix_as true c = refl
no_prefix_as false c = refl

no_prefix : (cs : List ℕ) → is_prefix_alone (tokens_for cs) ≡ false
no_prefix [] = refl
no_prefix (c ∷ []) = no_prefix_as (is_special c) c
no_prefix (c ∷ d ∷ cs) = refl

-- ---- the text

scalars_as : (c : ℕ) (cs rest : List ℕ) (t : Bool) → all_scalars (c ∷ cs) ≡ true → all_scalars rest ≡ true → all_scalars ((if t then 91 ∷ c ∷ 93 ∷ [] else c ∷ []) ++ rest) ≡ true
scalars_as c cs rest true h r = and_both _ _ refl (and_both _ _ (and_first _ _ h) (and_both _ _ refl r))
scalars_as c cs rest false h r = and_both _ _ (and_first _ _ h) r

scalars_escaped : (cs : List ℕ) → all_scalars cs ≡ true → all_scalars (escaped_chars cs) ≡ true
scalars_escaped [] h = refl
scalars_escaped (c ∷ cs) h = scalars_as c cs (escaped_chars cs) (is_special c) h (scalars_escaped cs (and_second _ _ h))

means_only : (o : Options) (text s : List ℕ) → IsUtf8 text → o.case_insensitive ≡ false → NoEscape o (chars text) → s ≡ escaped text
    → MeansOnly (record { text = s; options = o }) text
means_only o text s utf8 i n e =
    let cs = chars text in
    let spelled : chars s ≡ escaped_chars cs = ap chars e ∙ chars-encodes (escaped_chars cs) (scalars_escaped cs (scalars-chars text utf8)) in
    let read : reading o (chars s) ≡ Ok (tokens_for cs) = ap (reading o) spelled ∙ escaped_reads o cs n in
    let meaning : (b : List ℕ) → glob_matches (record { text = s; options = o }) b ≡ tokens_match_each o (tokens_for cs) b = λ b.
    sym (means_is (record { text = s; options = o }) (tokens_for cs) b read) ∙ ap (λ p. p || tokens_match_each o (tokens_for cs) b) (no_prefix cs) in
    let same = encodes-chars text utf8 in
    (ap is_ok read, λ b. (λ h. (all_take o cs b i).0 (sym (meaning b) ∙ h) ∙ same, λ e. meaning b ∙ (all_take o cs b i).1 (e ∙ sym same)))

-- ---- the two kinds of options

no_backslash : (cs : List ℕ) → list_all (λ c. not (c == 92)) cs ≡ true → NoEscape default_options cs
no_backslash [] h = refl
no_backslash (c ∷ cs) h = and_both _ _ (ap not (and-true (c == 92)) ∙ and_first _ _ h) (no_backslash cs (and_second _ _ h))

nothing_escapes : (cs : List ℕ) → NoEscape plain_options cs
nothing_escapes [] = refl
nothing_escapes (c ∷ cs) = and_both _ _ (ap not (and_none (c == 92))) (nothing_escapes cs)

pub means_only_by_default : (text s : List ℕ) → IsUtf8 text → s ≡ escaped text → IsTrue (has_no_backslash text) → MeansOnly (default_glob s) text
means_only_by_default text s utf8 e h = means_only default_options text s utf8 refl (no_backslash (chars text) h) e

pub means_only_plain : (text s : List ℕ) → IsUtf8 text → s ≡ escaped text → MeansOnly (record { text = s; options = plain_options }) text
means_only_plain text s utf8 e = means_only plain_options text s utf8 refl (nothing_escapes (chars text)) e
