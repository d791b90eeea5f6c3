-- Which paths the tokens match that each strategy fits.
use Rattle.std.proofs.Common.{◌≡◌, ℕ, ◌<◌, Bool, true, false, true≢false, not, ◌&&◌, ◌||◌, List, [], ◌∷◌, ◌++◌, map, Some, None, IsTrue, refl, ap, sym, ◌∙◌, subst, arith}
use Rattle.std.specs.Prelude.{◌==◌, ◌↔◌, if◌then◌else◌, encode_utf8}
use Rattle.std.specs.Char.{to_ascii_lowercase}
use Rattle.std.specs.Char as char
use Rattle.std.specs.List.{list_all, list_any}
use Rattle.std.proofs.Math.Logic.{⊎_elim}
use Rattle.std.proofs.lemmas.Bool.{ne_eqb, not-true}
use Rattle.std.proofs.lemmas.Bool.Decides.{nat_tests}
use Rattle.std.proofs.lemmas.List.{append-nil, append_assoc}
use Rattle.glob_syntax.specs.declared.options.Options.{Options}
use Rattle.glob_syntax.specs.Token.{Token, Literal, Any, ZeroOrMore, RecursivePrefix, Class, Tokens, end, and_then}
use Rattle.glob_syntax.specs.ClassBytes.{class_has}
use Rattle.glob_syntax.specs.TokenMatches.{is_wild, is_wild_character, compared, tokens_match_each, slash}
use Rattle.bit_sets.specs.Texts.{is_empty, is_one_byte}
use Rattle.glob_syntax.specs.Characters.{is_character}
use Rattle.glob_syntax.specs.TokensMatch.{is_prefix, is_prefix_alone, tokens_match}
use Rattle.glob_path.specs.PathParts.{is_separator, with_first, last_position, last_component, component_extension}
use Rattle.bit_sets.proofs.lemmas.Booleans.{and_both, and_first, and_second, and_none, or_either, same_truth, iff_trans}
use Rattle.glob_syntax.proofs.lemmas.Characters.{characters_are_scalars}
use Rattle.bit_sets.proofs.lemmas.Cuts.{empty_is}
use Rattle.glob_syntax.proofs.lemmas.TokenMatches.{one_byte}
use Rattle.glob_syntax.proofs.lemmas.TokenLists.{prefix_is}
use Rattle.glob_syntax.proofs.lemmas.MatchesByParts.{TokenMatches, AllMatch, equal_bytes, prefix_matches, then_matches}
use Rattle.glob_strategy.specs.Excluded as excluded
use Rattle.glob_strategy.specs.TokenTests.{is_star, is_literal_except, has_tokens, all_pass, first_and_rest, some_all_pass, literal_text, is_extension, ending, is_whole_path, is_star_extension}
use Rattle.glob_strategy.specs.Strategies.{matches_no_slash, after_prefix, is_last_component, is_any_extension, is_by_last_component}
use Rattle.glob_strategy.proofs.lemmas.Excluded.{dot_is}
use Rattle.glob_path.proofs.lemmas.LastPositions.{neither}
use Rattle.glob_strategy.proofs.lemmas.Components.{EndsWith, Lacks, lacks_cons, lacks_append, lacks_front, encode_lacks, EndsComponent, last_component_at, split, IsExtension, extension_ends, extension_parts}

-- ---- literals

pub literal_is : (o : Options) (c : ℕ) (b : List ℕ) → o.case_insensitive ≡ false → (b ≡ encode_utf8 c) ↔ TokenMatches o (Literal c) b
literal_is o c b e = rw e (equal_bytes b (encode_utf8 c))

-- literals match their own bytes
pub literals_take : (o : Options) (excluded : List ℕ) (ts : Tokens) (b : List ℕ) → o.case_insensitive ≡ false → all_pass (is_literal_except excluded) ts ≡ true
    → AllMatch o ts b ↔ (b ≡ literal_text ts)
literals_take o excluded end b off h = (λ p. empty_is b p, λ e. ap is_empty e)
literals_take o excluded (and_then (Literal c) ts) b off h =
    let rest = and_second (is_literal_except excluded (Literal c)) (all_pass (is_literal_except excluded) ts) h in (
      λ p.
          let (x, y, cut, q, r) = (then_matches o (Literal c) ts b).1 p in
          let same : x ≡ encode_utf8 c = (literal_is o c x off).1 q in
          let more : y ≡ literal_text ts = (literals_take o excluded ts y off rest).0 r in
          cut ∙ (λ i. same i ++ more i),
      λ e.
          (then_matches o (Literal c) ts b).0
          (encode_utf8 c, literal_text ts, e, (literal_is o c (encode_utf8 c) off).0 refl, (literals_take o excluded ts (literal_text ts) off rest).1 refl),
    )
literals_take o excluded (and_then t ts) b off h = absurd (true≢false (sym h))

-- an ASCII byte that is excluded is none of their bytes
text_lacks : (byte : ℕ) (excluded : List ℕ) (ts : Tokens) → byte < 128 → list_any (λ d. d == byte) excluded ≡ true → all_pass (is_literal_except excluded) ts ≡ true
    → Lacks (λ d. d == byte) (literal_text ts)
text_lacks byte excluded end small is h = refl
text_lacks byte excluded (and_then (Literal c) ts) small is h =
    let here : not (list_any (λ d. d == c) excluded) ≡ true = and_first (is_literal_except excluded (Literal c)) (all_pass (is_literal_except excluded) ts) h in
    let other : (c == byte) ≡ false = ne_eqb c byte (λ e. true≢false (sym is ∙ ap (λ d. list_any (λ x. x == d) excluded) (sym e) ∙ not-true (list_any (λ d. d == c) excluded) here)) in
    lacks_append (λ d. d == byte) (encode_utf8 c) (literal_text ts) (encode_lacks byte c small other)
    (text_lacks byte excluded ts small is (and_second (is_literal_except excluded (Literal c)) (all_pass (is_literal_except excluded) ts) h))
text_lacks byte excluded (and_then t ts) small is h = absurd (true≢false (sym h))

-- ---- RecursivePrefix before other tokens

pub means_taken : (o : Options) (ts : Tokens) (b : List ℕ) → is_prefix_alone ts ≡ false → IsTrue (tokens_match o ts b) ↔ AllMatch o ts b
means_taken o ts b e = subst (λ t. IsTrue (t || tokens_match_each o ts b) ↔ AllMatch o ts b) (sym e) (λ h. h, λ h. h)

pub more_after : (t : Token) (ts : Tokens) → has_tokens ts ≡ true → is_prefix_alone (and_then t ts) ≡ false
more_after t end h = absurd (true≢false (sym h))
more_after t (and_then u us) h = refl

pub no_prefix : (t : Token) (ts : Tokens) → is_prefix t ≡ false → is_prefix_alone (and_then t ts) ≡ false
no_prefix t end h = h
no_prefix t (and_then u us) h = refl

pub after_component : (o : Options) (ts : Tokens) (b : List ℕ)
    → AllMatch o (and_then RecursivePrefix ts) b ↔ ((x y : List ℕ) × (b ≡ x ++ y) × EndsComponent x × AllMatch o ts y)
after_component o ts b = (
  λ h. let (x, y, cut, p, q) = (then_matches o RecursivePrefix ts b).1 h in (x, y, cut, (prefix_matches o x).1 p, q),
  λ (x, y, cut, ends, q). (then_matches o RecursivePrefix ts b).0 (x, y, cut, (prefix_matches o x).0 ends, q),
)

-- tokens that match no `/` match the last component if RecursivePrefix and these match the path
by_component : (o : Options) (ts : Tokens) (b : List ℕ) → has_tokens ts ≡ true → ((y : List ℕ) → AllMatch o ts y → Lacks is_separator y)
    → IsTrue (tokens_match o (and_then RecursivePrefix ts) b) ↔ AllMatch o ts (last_component b)
by_component o ts b some lacks = iff_trans (means_taken o (and_then RecursivePrefix ts) b (more_after RecursivePrefix ts some)) (
  λ all.
      let (x, y, cut, ends, q) = (after_component o ts b).0 all in
      let last : last_component b ≡ y = ap last_component cut ∙ last_component_at x y ends (lacks y q) in
      subst (AllMatch o ts) (sym last) q,
  λ q. let p = split b in (after_component o ts b).1 (p.front, last_component b, p.cut, p.ends, q),
)

-- ---- whole paths, and last components

literal_no_prefix : (excluded : List ℕ) (t : Token) → is_literal_except excluded t ≡ true → is_prefix t ≡ false
literal_no_prefix excluded (Literal c) h = refl
literal_no_prefix excluded t h = absurd (true≢false (sym h))

pub whole_path_means : (o : Options) (ts : Tokens) (b : List ℕ) → o.case_insensitive ≡ false → is_whole_path ts ≡ true → IsTrue (tokens_match o ts b) ↔ (b ≡ literal_text ts)
whole_path_means o end b off h = absurd (true≢false (sym h))
whole_path_means o (and_then t ts) b off h =
    iff_trans (means_taken o (and_then t ts) b (no_prefix t ts (literal_no_prefix [] t (and_first (is_literal_except [] t) (all_pass (is_literal_except []) ts) h))))
    (literals_take o [] (and_then t ts) b off h)

-- tokens of which the first passes a test that only one token passes
pub by_first : (C : Tokens → Type 0) (test : Token → Bool) (first : Token) (rest : Tokens → Bool) → ((t : Token) → test t ≡ true → t ≡ first)
    → ((us : Tokens) → rest us ≡ true → C (and_then first us)) → (ts : Tokens) → first_and_rest test rest ts ≡ true → C ts
by_first C test first rest is holds end h = absurd (true≢false (sym h))
by_first C test first rest is holds (and_then t ts) h =
    subst (λ u. C (and_then u ts)) (sym (is t (and_first (test t) (rest ts) h))) (holds ts (and_second (test t) (rest ts) h))

pub last_component_means : (o : Options) (b : List ℕ) → o.case_insensitive ≡ false → (ts : Tokens) → is_last_component ts ≡ true
    → IsTrue (tokens_match o ts b) ↔ (last_component b ≡ literal_text ts)
last_component_means o b off = by_first (λ ts. IsTrue (tokens_match o ts b) ↔ (last_component b ≡ literal_text ts)) is_prefix RecursivePrefix (some_all_pass (is_literal_except (slash ∷ []))) prefix_is
    (λ us h.
    let all : all_pass (is_literal_except (slash ∷ [])) us ≡ true = and_second (has_tokens us) (all_pass (is_literal_except (slash ∷ [])) us) h in
    let lacks : Lacks is_separator (literal_text us) = text_lacks slash (slash ∷ []) us (omega arith) refl all in
    iff_trans (by_component o us b (and_first (has_tokens us) (all_pass (is_literal_except (slash ∷ [])) us) h)
    (λ y p. subst (Lacks is_separator) (sym ((literals_take o (slash ∷ []) us y off all).0 p)) lacks))
    (literals_take o (slash ∷ []) us (last_component b) off all))

-- ---- tokens that match no `/`

lower_separator : (c : ℕ) → is_separator (to_ascii_lowercase c) ≡ is_separator c
lower_separator c = grind (arith, nat_tests)

compared_position : (b : List ℕ) (folded : Bool) → last_position is_separator (if folded then map to_ascii_lowercase b else b) ≡ last_position is_separator b
compared_position b false = refl
compared_position [] true = refl
compared_position (c ∷ cs) true = λ i. with_first (compared_position cs true i) (lower_separator c i)

one_lacks : (test : ℕ → Bool) (b : List ℕ) → ((c : ℕ) → test c ≡ true → (c == slash) ≡ false) → IsTrue (is_one_byte test b) → Lacks is_separator b
one_lacks test b other h =
    let (c, is, passes) = (one_byte test b).1 h in
    subst (Lacks is_separator) (sym is) (lacks_cons is_separator c [] (other c passes) refl)

wild_other : (o : Options) (c : ℕ) → o.literal_separator ≡ true → is_wild o c ≡ true → (c == slash) ≡ false
wild_other o c on h = not-true (c == slash) (ap (λ t. not (t && (c == slash))) (sym on) ∙ h)

all_wild_lacks : (o : Options) (b : List ℕ) → o.literal_separator ≡ true → IsTrue (list_all (is_wild o) b) → Lacks is_separator b
all_wild_lacks o [] on h = refl
all_wild_lacks o (c ∷ cs) on h =
    lacks_cons is_separator c cs (wild_other o c on (and_first (is_wild o c) (list_all (is_wild o) cs) h)) (all_wild_lacks o cs on (and_second (is_wild o c) (list_all (is_wild o) cs) h))

slash_bytes : encode_utf8 slash ≡ slash ∷ []
unfolding char.encode_utf8
slash_bytes = refl

has_other : (had : ℕ → Bool) → had slash ≡ false → (c : ℕ) → had c ≡ true → (c == slash) ≡ false
has_other had none c h = ne_eqb c slash (λ e. true≢false (sym h ∙ ap had e ∙ none))

-- a character that is not `/` has no `/` in its bytes
character_lacks : (o : Options) (b : List ℕ) → o.literal_separator ≡ true → IsTrue (is_wild_character o b) → Lacks is_separator b
character_lacks o b on h =
    let alone = is_one_byte (λ d. d == slash) b in
    let (c, is, same) = (characters_are_scalars b).0 (and_first (is_character b) (not (o.literal_separator && alone)) h) in
    let apart : alone ≡ false = not-true alone (ap (λ t. not (t && alone)) (sym on) ∙ and_second (is_character b) (not (o.literal_separator && alone)) h) in
    let other : (c == slash) ≡ false =
    ne_eqb c slash (λ e. true≢false (sym (ap (is_one_byte (λ d. d == slash)) (same ∙ ap encode_utf8 e ∙ slash_bytes)) ∙ apart)) in
    subst (Lacks is_separator) (sym same) (encode_lacks slash c (omega arith) other)

any_lacks : (o : Options) (b : List ℕ) → o.literal_separator ≡ true → (q : Bool) → o.whole_character ≡ q → TokenMatches o Any b → Lacks is_separator b
any_lacks o b on true e h = character_lacks o b on (rw e at h)
any_lacks o b on false e h = one_lacks (is_wild o) b (λ c. wild_other o c on) (rw e at h)

no_slash_lacks : (o : Options) (t : Token) (b : List ℕ) → matches_no_slash o t ≡ true → TokenMatches o t b → Lacks is_separator b
no_slash_lacks o (Literal c) b w h =
    let same : compared o b ≡ compared o (encode_utf8 c) = (equal_bytes (compared o b) (compared o (encode_utf8 c))).1 h in
    sym (compared_position b o.case_insensitive) ∙ ap (last_position is_separator) same ∙ compared_position (encode_utf8 c) o.case_insensitive
    ∙ encode_lacks slash c (omega arith) (not-true (c == slash) w)
no_slash_lacks o Any b w h = any_lacks o b w o.whole_character refl h
no_slash_lacks o ZeroOrMore b w h = all_wild_lacks o b w h
no_slash_lacks o (Class negated rs) b w h = one_lacks (class_has o negated rs) b (has_other (class_has o negated rs) (not-true (class_has o negated rs slash) w)) h
no_slash_lacks o t b w h = absurd (true≢false (sym w))

no_slash_all : (o : Options) (ts : Tokens) → all_pass (matches_no_slash o) ts ≡ true → (b : List ℕ) → AllMatch o ts b → Lacks is_separator b
no_slash_all o end w b h = subst (Lacks is_separator) (sym (empty_is b h)) refl
no_slash_all o (and_then t ts) w b h =
    let (x, y, cut, p, q) = (then_matches o t ts b).1 h in
    subst (Lacks is_separator) (sym cut)
    (lacks_append is_separator x y (no_slash_lacks o t x (and_first (matches_no_slash o t) (all_pass (matches_no_slash o) ts) w) p) (no_slash_all o ts (and_second (matches_no_slash o t) (all_pass (matches_no_slash o) ts) w) y q))

no_slash_no_prefix : (o : Options) (t : Token) → matches_no_slash o t ≡ true → is_prefix t ≡ false
no_slash_no_prefix o RecursivePrefix h = absurd (true≢false (sym h))
no_slash_no_prefix o t h = refl

no_slash_not_alone : (o : Options) (ts : Tokens) → all_pass (matches_no_slash o) ts ≡ true → is_prefix_alone ts ≡ false
no_slash_not_alone o end h = refl
no_slash_not_alone o (and_then t ts) h = no_prefix t ts (no_slash_no_prefix o t (and_first (matches_no_slash o t) (all_pass (matches_no_slash o) ts) h))

pub by_last_component_means : (o : Options) (b : List ℕ) (ts : Tokens) → is_by_last_component o ts ≡ true → tokens_match o ts b ≡ tokens_match o (after_prefix ts) (last_component b)
by_last_component_means o b = by_first (λ ts. tokens_match o ts b ≡ tokens_match o (after_prefix ts) (last_component b)) is_prefix RecursivePrefix (some_all_pass (matches_no_slash o)) prefix_is
    (λ us h.
    let all : all_pass (matches_no_slash o) us ≡ true = and_second (has_tokens us) (all_pass (matches_no_slash o) us) h in
    let component = by_component o us b (and_first (has_tokens us) (all_pass (matches_no_slash o) us) h) (no_slash_all o us all) in
    let same = means_taken o us (last_component b) (no_slash_not_alone o us all) in
    same_truth (tokens_match o (and_then RecursivePrefix us) b) (tokens_match o us (last_component b)) (λ p. same.1 (component.0 p), λ p. component.1 (same.0 p)))

-- what the key of a last component, and the tokens of a last component, lack

pub last_component_lacks : (ts : Tokens) → is_last_component ts ≡ true → Lacks is_separator (literal_text ts)
last_component_lacks = by_first (λ ts. Lacks is_separator (literal_text ts)) is_prefix RecursivePrefix (some_all_pass (is_literal_except (slash ∷ []))) prefix_is
    (λ us h. text_lacks slash (slash ∷ []) us (omega arith) refl (and_second (has_tokens us) (all_pass (is_literal_except (slash ∷ [])) us) h))

pub by_last_component_lacks : (o : Options) (b : List ℕ) (ts : Tokens) → is_by_last_component o ts ≡ true → IsTrue (tokens_match o (after_prefix ts) b) → Lacks is_separator b
by_last_component_lacks o b = by_first (λ ts. IsTrue (tokens_match o (after_prefix ts) b) → Lacks is_separator b) is_prefix RecursivePrefix (some_all_pass (matches_no_slash o)) prefix_is
    (λ us h matched.
    let all : all_pass (matches_no_slash o) us ≡ true = and_second (has_tokens us) (all_pass (matches_no_slash o) us) h in
    no_slash_all o us all b ((means_taken o us b (no_slash_not_alone o us all)).0 matched))

-- ---- extensions

dot_bytes : encode_utf8 46 ≡ 46 ∷ []
unfolding char.encode_utf8
dot_bytes = refl

pub star_is : (t : Token) → is_star t ≡ true → t ≡ ZeroOrMore
star_is ZeroOrMore h = refl
star_is t h = absurd (true≢false (sym h))

literals_any : (excluded : List ℕ) (ts : Tokens) → all_pass (is_literal_except excluded) ts ≡ true → all_pass (is_literal_except []) ts ≡ true
literals_any excluded end h = refl
literals_any excluded (and_then (Literal c) ts) h = literals_any excluded ts (and_second (is_literal_except excluded (Literal c)) (all_pass (is_literal_except excluded) ts) h)
literals_any excluded (and_then t ts) h = absurd (true≢false (sym h))

-- tokens that are an extension are literals, and their bytes are an extension
abbrev AreExtension : Tokens → Type 0
AreExtension ts = IsExtension (literal_text ts) × (all_pass (is_literal_except []) ts ≡ true)

pub extension_literals : (ts : Tokens) → is_extension ts ≡ true → AreExtension ts
extension_literals = by_first AreExtension excluded.is_dot (Literal 46) (all_pass (is_literal_except (46 ∷ slash ∷ []))) dot_is (λ us all. (
  record {
    after = literal_text us;
    dot = ap (λ l. l ++ literal_text us) dot_bytes;
    no_dot = text_lacks 46 (46 ∷ slash ∷ []) us (omega arith) refl all;
    no_slash = text_lacks slash (46 ∷ slash ∷ []) us (omega arith) refl all;
  },
  literals_any (46 ∷ slash ∷ []) us all,
))

-- a path ends with the extension of its last component
pub extension_end : (b : List ℕ) → EndsWith b (component_extension b)
extension_end b = ⊎_elim {C = EndsWith b (component_extension b)}
    (λ none. (b, sym (append-nil b) ∙ ap (λ l. b ++ l) (sym none)))
    (λ has. let p = split b in (p.front ++ has.before, p.cut ∙ ap (λ l. p.front ++ l) has.cut ∙ sym (append_assoc p.front has.before (component_extension b))))
    (extension_parts b)

wild : (o : Options) (c : ℕ) → o.literal_separator ≡ false → is_wild o c ≡ true
wild o c e = ap (λ t. not (t && (c == slash))) e

-- without `literal_separator` a star matches everything
pub star_matches : (o : Options) (b : List ℕ) → o.literal_separator ≡ false → TokenMatches o ZeroOrMore b
star_matches o [] e = refl
star_matches o (c ∷ cs) e = and_both (is_wild o c) (list_all (is_wild o) cs) (wild o c e) (star_matches o cs e)

-- and under every option it matches what has no `/`
star_matches_component : (o : Options) (b : List ℕ) → Lacks is_separator b → TokenMatches o ZeroOrMore b
star_matches_component o [] h = refl
star_matches_component o (c ∷ cs) h =
    let n = neither (last_position is_separator cs) (c == slash) h in
    and_both (is_wild o c) (list_all (is_wild o) cs) (ap (λ t. not (o.literal_separator && t)) n.1 ∙ ap not (and_none o.literal_separator)) (star_matches_component o cs n.0)

-- a star and literals
pub star_literals_take : (o : Options) (b : List ℕ) → o.case_insensitive ≡ false → (ts : Tokens) → all_pass (is_literal_except []) ts ≡ true
    → AllMatch o (and_then ZeroOrMore ts) b ↔ ((x : List ℕ) × (b ≡ x ++ literal_text ts) × TokenMatches o ZeroOrMore x)
star_literals_take o b off ts h = (
  λ p.
      let (x, y, cut, q, r) = (then_matches o ZeroOrMore ts b).1 p in
      let same : y ≡ literal_text ts = (literals_take o [] ts y off h).0 r in
      (x, cut ∙ ap (λ l. x ++ l) same, q),
  λ (x, is, p). (then_matches o ZeroOrMore ts b).0 (x, literal_text ts, is, p, (literals_take o [] ts (literal_text ts) off h).1 refl),
)

abbrev HasThisExtension : Options → List ℕ → Tokens → Type 0
HasThisExtension o b ts = IsTrue (tokens_match o ts b) ↔ (component_extension b ≡ literal_text ts)

-- a star and an extension, if the star matches everything
star_extension_means : (o : Options) (b : List ℕ) → o.case_insensitive ≡ false → o.literal_separator ≡ false → (ts : Tokens) → is_star_extension ts ≡ true → HasThisExtension o b ts
star_extension_means o b off all = by_first (HasThisExtension o b) is_star ZeroOrMore is_extension star_is (λ us h.
    iff_trans (means_taken o (and_then ZeroOrMore us) b (no_prefix ZeroOrMore us refl)) (
      λ p. let (x, is, q) = (star_literals_take o b off us (extension_literals us h).1).0 p in extension_ends b (literal_text us) (extension_literals us h).0 (x, is),
      λ is. let (x, cut) = extension_end b in (star_literals_take o b off us (extension_literals us h).1).1 (x, cut ∙ ap (λ l. x ++ l) is, star_matches o x all),
    ))

-- RecursivePrefix, a star and an extension
prefix_star_means : (o : Options) (b : List ℕ) → o.case_insensitive ≡ false → (us : Tokens) → is_extension us ≡ true → HasThisExtension o b (and_then RecursivePrefix (and_then ZeroOrMore us))
prefix_star_means o b off us h = iff_trans (means_taken o (and_then RecursivePrefix (and_then ZeroOrMore us)) b refl) (
  λ p.
      let (x, y, cut, ends, q) = (after_component o (and_then ZeroOrMore us) b).0 p in
      let (w, is, r) = (star_literals_take o y off us literals).0 q in
      extension_ends b t k (x ++ w, cut ∙ ap (λ l. x ++ l) is ∙ sym (append_assoc x w t)),
  λ is. ⊎_elim {C = AllMatch o (and_then RecursivePrefix (and_then ZeroOrMore us)) b}
      (λ none. absurd (let no_text : t ≡ [] = sym is ∙ none in let dot = k.dot in cc))
      (λ has.
      let p = split b in
      let last : last_component b ≡ has.before ++ t = has.cut ∙ ap (λ l. has.before ++ l) is in
      let within : TokenMatches o ZeroOrMore has.before = star_matches_component o has.before (lacks_front is_separator has.before (component_extension b) (subst (Lacks is_separator) has.cut p.lacks)) in
      (after_component o (and_then ZeroOrMore us) b).1 (p.front, last_component b, p.cut, p.ends, (star_literals_take o (last_component b) off us literals).1 (has.before, last, within)))
      (extension_parts b),
)
  where
    t : List ℕ
    t = literal_text us

    k : IsExtension t
    k = (extension_literals us h).0

    literals : all_pass (is_literal_except []) us ≡ true
    literals = (extension_literals us h).1

pub any_extension_means : (o : Options) (b : List ℕ) → o.case_insensitive ≡ false → (ts : Tokens) → is_any_extension o ts ≡ true → HasThisExtension o b ts
any_extension_means o b off ts h = ⊎_elim {C = HasThisExtension o b ts}
    (by_first (HasThisExtension o b) is_prefix RecursivePrefix is_star_extension prefix_is
    (by_first (λ us. HasThisExtension o b (and_then RecursivePrefix us)) is_star ZeroOrMore is_extension star_is (prefix_star_means o b off)) ts)
    (λ both. star_extension_means o b off (not-true o.literal_separator (and_first (not o.literal_separator) (is_star_extension ts) both)) ts (and_second (not o.literal_separator) (is_star_extension ts) both))
    (or_either (first_and_rest is_prefix is_star_extension ts) (not o.literal_separator && is_star_extension ts) h)

-- the key of an extension is one
pub any_extension_is : (o : Options) (ts : Tokens) → is_any_extension o ts ≡ true → IsExtension (literal_text ts)
any_extension_is o ts h = ⊎_elim {C = IsExtension (literal_text ts)}
    (by_first (λ us. IsExtension (literal_text us)) is_prefix RecursivePrefix is_star_extension prefix_is (λ us. star_is_extension us) ts)
    (λ both. star_is_extension ts (and_second (not o.literal_separator) (is_star_extension ts) both))
    (or_either (first_and_rest is_prefix is_star_extension ts) (not o.literal_separator && is_star_extension ts) h)
  where
    star_is_extension : (us : Tokens) → is_star_extension us ≡ true → IsExtension (literal_text us)
    star_is_extension = by_first (λ us. IsExtension (literal_text us)) is_star ZeroOrMore is_extension star_is (λ us found. (extension_literals us found).0)

-- ---- required extensions

-- what tokens match ends with their ending, which is an extension
ending_taken : (o : Options) (ts : Tokens) (b k : List ℕ) → o.case_insensitive ≡ false → ending ts ≡ Some k → AllMatch o ts b → IsExtension k × EndsWith b k
ending_taken o end b k off e h = absurd (cc)
ending_taken o (and_then t ts) b k off e h = by_case (λ y later q. ending_taken o ts y k off later q) (is_extension (and_then t ts)) refl
  where
    by_case : ((y : List ℕ) → ending ts ≡ Some k → AllMatch o ts y → IsExtension k × EndsWith y k) → (x : Bool) → is_extension (and_then t ts) ≡ x → IsExtension k × EndsWith b k
    by_case rest true is =
        let found : Some (literal_text (and_then t ts)) ≡ Some k = sym (ap (λ x. if x then Some (literal_text (and_then t ts)) else ending ts) is) ∙ e in
        let same : literal_text (and_then t ts) ≡ k = cc in
        let own = extension_literals (and_then t ts) is in
        (subst IsExtension same own.0, ([], (literals_take o [] (and_then t ts) b off own.1).0 h ∙ same))
    by_case rest false is =
        let later : ending ts ≡ Some k = sym (ap (λ x. if x then Some (literal_text (and_then t ts)) else ending ts) is) ∙ e in
        let (x, y, cut, p, q) = (then_matches o t ts b).1 h in
        let (k_is, (front, at)) = rest y later q in
        (k_is, (x ++ front, cut ∙ ap (λ l. x ++ l) at ∙ sym (append_assoc x front k)))

pub no_ending : (ts : Tokens) → is_prefix_alone ts ≡ true → ending ts ≡ None
no_ending end h = absurd (true≢false (sym h))
no_ending (and_then RecursivePrefix end) h = refl
no_ending (and_then t end) h = absurd (true≢false (sym h))
no_ending (and_then t (and_then u ts)) h = absurd (true≢false (sym h))

-- the last component of a path that case-sensitive tokens match has their ending as its extension
pub ending_required : (o : Options) (ts : Tokens) (b k : List ℕ) → o.case_insensitive ≡ false → ending ts ≡ Some k → IsTrue (tokens_match o ts b) → component_extension b ≡ k
ending_required o ts b k off e h = ⊎_elim {C = component_extension b ≡ k}
    (λ alone. absurd (let no_key : None ≡ Some k = sym (no_ending ts alone) ∙ e in cc))
    (λ all. let (is, ends) = ending_taken o ts b k off e all in extension_ends b k is ends)
    (or_either (is_prefix_alone ts) (tokens_match_each o ts b) h)
