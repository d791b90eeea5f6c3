-- Tests of flat tokens give the same as those of the tree that the tokens have.
use Rattle.std.proofs.Common.{◌≡◌, Bool, true, false, true≢false, not, ◌&&◌, ◌||◌, List, [], ◌∷◌, ◌++◌, refl, ap, sym, ◌∙◌, subst}
use Rattle.std.specs.Prelude.{if◌then◌else◌, encode_utf8}
use Rattle.std.proofs.lemmas.List.{map-append}
use Rattle.std.proofs.Math.Bool.{and-true}
use Rattle.glob_syntax.specs.declared.options.Options.{Options}
use Rattle.glob_syntax.specs.declared.token.Token as held
use Rattle.glob_syntax.specs.Token.{Token, Literal, Group, Tokens, end, and_then, Branches}
use Rattle.glob_syntax.specs.FlatTokens.{Flat, simple, opening, comma, closing, levels_of, tree_of, IsNested, IsSimple}
use Rattle.glob_syntax.specs.Views.{flat_of, flats, tokens_of}
use Rattle.glob_syntax.proofs.lemmas.FlatTrees.{shaped, in_first, open_here}
use Rattle.glob_syntax.specs.TokenMatches.{slash}
use Rattle.glob_syntax.specs.TokensMatch.{is_prefix}
use Rattle.glob_syntax.specs.TokensMatch.{is_prefix_alone as tree_alone}
use Rattle.bit_sets.proofs.lemmas.Booleans.{and_first, and_second, and_none}
use Rattle.glob_strategy.specs.Excluded.{is_dot}
use Rattle.glob_strategy.specs.Strategies as strategies
use Rattle.glob_strategy.specs.TokenTests as tree
use Rattle.glob_strategy.specs.TokenTests.{is_literal_except, is_star, is_suffix, has_tokens, all_pass, some_all_pass}
use Rattle.glob_strategy.specs.Strategies.{matches_no_slash}
use Rattle.glob_strategy.specs.inner.FlatTests as flat
use Rattle.glob_strategy.specs.inner.FlatTests.{is_simple_that, all_simple_pass, some_all_simple_pass}

-- ---- tests

-- the test fails for every group
abbrev pub RejectsGroups : (Token → Bool) → Type 0
RejectsGroups test = (bs : Branches) → test (Group bs) ≡ false

pub tree_simple : (t : Token) (ts : List Flat) → tree_of (simple t ∷ ts) ≡ and_then t (tree_of ts)
tree_simple t ts = in_first t (levels_of ts) (shaped ts)

pub all_same : (test : Token → Bool) → RejectsGroups test → (ts : List Flat) → IsNested ts → all_simple_pass test ts ≡ all_pass test (tree_of ts)
all_same test r [] n = refl
all_same test r (simple t ∷ ts) n = ap (λ b. test t && b) (all_same test r ts n) ∙ ap (all_pass test) (sym (tree_simple t ts))
all_same test r (opening ∷ ts) n = let (us, e) = open_here ts n in sym (ap (all_pass test) e ∙ ap (λ b. b && all_pass test us) (r (levels_of ts).0))
all_same test r (comma ∷ ts) n = absurd n
all_same test r (closing ∷ ts) n = absurd n

filled : (t : Flat) (ts : List Flat) → IsNested (t ∷ ts) → has_tokens (tree_of (t ∷ ts)) ≡ true
filled (simple t) ts n = ap has_tokens (tree_simple t ts)
filled opening ts n = let (us, e) = open_here ts n in ap has_tokens e
filled comma ts n = absurd n
filled closing ts n = absurd n

some_same : (test : Token → Bool) → RejectsGroups test → (ts : List Flat) → IsNested ts → some_all_simple_pass test ts ≡ some_all_pass test (tree_of ts)
some_same test r [] n = refl
some_same test r (t ∷ ts) n = all_same test r (t ∷ ts) n ∙ ap (λ b. b && all_pass test (tree_of (t ∷ ts))) (sym (filled t ts n))

first_same : (test : Token → Bool) → RejectsGroups test → (here : List Flat → Bool) (there : Tokens → Bool) → ((us : List Flat) → IsNested us → here us ≡ there (tree_of us))
    → (ts : List Flat) → IsNested ts → flat.first_and_rest test here ts ≡ tree.first_and_rest test there (tree_of ts)
first_same test r here there same [] n = refl
first_same test r here there same (simple t ∷ ts) n = ap (λ b. test t && b) (same ts n) ∙ ap (tree.first_and_rest test there) (sym (tree_simple t ts))
first_same test r here there same (opening ∷ ts) n = let (us, e) = open_here ts n in sym (ap (tree.first_and_rest test there) e ∙ ap (λ b. b && there us) (r (levels_of ts).0))
first_same test r here there same (comma ∷ ts) n = absurd n
first_same test r here there same (closing ∷ ts) n = absurd n

pub whole_path_same : (ts : List Flat) → IsNested ts → flat.is_whole_path ts ≡ tree.is_whole_path (tree_of ts)
whole_path_same = some_same (is_literal_except []) (λ bs. refl)

pub last_component_same : (ts : List Flat) → IsNested ts → flat.is_last_component ts ≡ strategies.is_last_component (tree_of ts)
last_component_same =
    first_same is_prefix (λ bs. refl) (some_all_simple_pass (is_literal_except (slash ∷ []))) (some_all_pass (is_literal_except (slash ∷ [])))
    (some_same (is_literal_except (slash ∷ [])) (λ bs. refl))

pub last_components_same : (ts : List Flat) → IsNested ts → flat.is_last_components ts ≡ tree.is_last_components (tree_of ts)
last_components_same = first_same is_prefix (λ bs. refl) flat.is_whole_path tree.is_whole_path whole_path_same

-- the test for what follows the `.` of an extension
abbrev pub is_plain : Token → Bool
is_plain t = is_literal_except (46 ∷ slash ∷ []) t

pub extension_same : (ts : List Flat) → IsNested ts → flat.is_extension ts ≡ tree.is_extension (tree_of ts)
extension_same = first_same is_dot (λ bs. refl) (all_simple_pass is_plain) (all_pass is_plain) (all_same is_plain (λ bs. refl))

star_extension_same : (ts : List Flat) → IsNested ts → flat.is_star_extension ts ≡ tree.is_star_extension (tree_of ts)
star_extension_same = first_same is_star (λ bs. refl) flat.is_extension tree.is_extension extension_same

pub any_extension_same : (o : Options) (ts : List Flat) → IsNested ts → flat.is_any_extension o ts ≡ strategies.is_any_extension o (tree_of ts)
any_extension_same o ts n = λ i.
    first_same is_prefix (λ bs. refl) flat.is_star_extension tree.is_star_extension star_extension_same ts n i || (not o.literal_separator && star_extension_same ts n i)

star_literals_same : (ts : List Flat) → IsNested ts → flat.is_star_literals ts ≡ tree.is_star_literals (tree_of ts)
star_literals_same = first_same is_star (λ bs. refl) flat.are_literals tree.are_literals (all_same (is_literal_except []) (λ bs. refl))

pub end_same : (o : Options) (ts : List Flat) → IsNested ts → flat.is_end o ts ≡ tree.is_end o (tree_of ts)
end_same o ts n = λ i.
    not o.literal_separator && (first_same is_prefix (λ bs. refl) flat.is_star_literals tree.is_star_literals star_literals_same ts n i || star_literals_same ts n i)

more_tokens : (test : Token → Bool) (t : Token) (ts : Tokens) → has_tokens ts ≡ true → tree.literals_and_last test (and_then t ts) ≡ (is_literal_except [] t && tree.literals_and_last test ts)
more_tokens test t end h = absurd (true≢false (sym h))
more_tokens test t (and_then u us) h = refl

group_first : (test : Token → Bool) → RejectsGroups test → (bs : Branches) (ts : Tokens) → tree.literals_and_last test (and_then (Group bs) ts) ≡ false
group_first test r bs end = r bs
group_first test r bs (and_then u us) = refl

last_same : (test : Token → Bool) → RejectsGroups test → (ts : List Flat) → IsNested ts → flat.literals_and_last test ts ≡ tree.literals_and_last test (tree_of ts)
last_same test r [] n = refl
last_same test r (simple t ∷ []) n = sym (ap (tree.literals_and_last test) (tree_simple t []))
last_same test r (simple t ∷ (u ∷ us)) n =
    ap (λ b. is_literal_except [] t && b) (last_same test r (u ∷ us) n) ∙ sym (ap (tree.literals_and_last test) (tree_simple t (u ∷ us)) ∙ more_tokens test t (tree_of (u ∷ us)) (filled u us n))
last_same test r (opening ∷ []) n = let (us, e) = open_here [] n in sym (ap (tree.literals_and_last test) e ∙ group_first test r (levels_of []).0 us)
last_same test r (opening ∷ (u ∷ us)) n = let (vs, e) = open_here (u ∷ us) n in sym (ap (tree.literals_and_last test) e ∙ group_first test r (levels_of (u ∷ us)).0 vs)
last_same test r (comma ∷ ts) n = absurd n
last_same test r (closing ∷ ts) n = absurd n

more_than_one : (t : Token) (ts : Tokens) → has_tokens ts ≡ true → tree_alone (and_then t ts) ≡ false
more_than_one t end h = absurd (true≢false (sym h))
more_than_one t (and_then u us) h = refl

group_alone : (bs : Branches) (ts : Tokens) → tree_alone (and_then (Group bs) ts) ≡ false
group_alone bs end = refl
group_alone bs (and_then u us) = refl

alone_same : (ts : List Flat) → IsNested ts → flat.is_prefix_alone ts ≡ tree_alone (tree_of ts)
alone_same [] n = refl
alone_same (simple t ∷ []) n = sym (ap tree_alone (tree_simple t []))
alone_same (simple t ∷ (u ∷ us)) n = sym (ap tree_alone (tree_simple t (u ∷ us)) ∙ more_than_one t (tree_of (u ∷ us)) (filled u us n))
alone_same (opening ∷ []) n = let (us, e) = open_here [] n in sym (ap tree_alone e ∙ group_alone (levels_of []).0 us)
alone_same (opening ∷ (u ∷ us)) n = let (vs, e) = open_here (u ∷ us) n in sym (ap tree_alone e ∙ group_alone (levels_of (u ∷ us)).0 vs)
alone_same (comma ∷ ts) n = absurd n
alone_same (closing ∷ ts) n = absurd n

pub beginning_same : (o : Options) (ts : List Flat) → IsNested ts → flat.is_beginning o ts ≡ tree.is_beginning o (tree_of ts)
beginning_same o ts n = λ i. alone_same ts n i || (not o.literal_separator && last_same is_star (λ bs. refl) ts n i)

pub below_folder_same : (ts : List Flat) → IsNested ts → flat.is_below_folder ts ≡ tree.is_below_folder (tree_of ts)
below_folder_same = last_same is_suffix (λ bs. refl)

pub by_last_component_same : (o : Options) (ts : List Flat) → IsNested ts → flat.is_by_last_component o ts ≡ strategies.is_by_last_component o (tree_of ts)
by_last_component_same o = first_same is_prefix (λ bs. refl) (some_all_simple_pass (matches_no_slash o)) (some_all_pass (matches_no_slash o)) (some_same (matches_no_slash o) (λ bs. refl))

-- ---- tokens after RecursivePrefix

after_prefix : (t : Flat) (ts : List Flat) → IsNested (t ∷ ts) → is_simple_that is_prefix t ≡ true → (tree_of ts ≡ strategies.after_prefix (tree_of (t ∷ ts))) × IsNested ts
after_prefix (simple t) ts n h = (sym (ap strategies.after_prefix (tree_simple t ts) ∙ ap (λ b. if b then tree_of ts else and_then t (tree_of ts)) h), n)
after_prefix opening ts n h = absurd (true≢false (sym h))
after_prefix comma ts n h = absurd n
after_prefix closing ts n h = absurd n

after_other : (t : Flat) (ts : List Flat) → IsNested (t ∷ ts) → is_simple_that is_prefix t ≡ false → tree_of (t ∷ ts) ≡ strategies.after_prefix (tree_of (t ∷ ts))
after_other (simple t) ts n h =
    let e = tree_simple t ts in
    e ∙ sym (ap strategies.after_prefix e ∙ ap (λ b. if b then tree_of ts else and_then t (tree_of ts)) h)
after_other opening ts n h = let (us, e) = open_here ts n in e ∙ sym (ap strategies.after_prefix e)
after_other comma ts n h = absurd n
after_other closing ts n h = absurd n

-- or it is not
pub other_kept : (ts : List held.Token) (t : held.Token) (us : List held.Token) (whole : Tokens) → ts ≡ t ∷ us → IsNested (flats ts) → whole ≡ tokens_of ts → is_simple_that is_prefix (flat_of t) ≡ false
    → tokens_of ts ≡ strategies.after_prefix whole
other_kept ts t us whole e n w h =
    let cut : flats ts ≡ flat_of t ∷ flats us = ap flats e in
    ap tree_of cut ∙ after_other (flat_of t) (flats us) (subst IsNested cut n) h ∙ sym (ap strategies.after_prefix (w ∙ ap tree_of cut))

-- ---- texts

-- no token is a brace or a comma
abbrev pub AreSimple : List Flat → Type 0
AreSimple [] = Unit {0}
AreSimple (t ∷ ts) = IsSimple t × AreSimple ts

simple_that : (test : Token → Bool) (t : Flat) → is_simple_that test t ≡ true → IsSimple t
simple_that test (simple t) h = tt
simple_that test opening h = absurd (true≢false (sym h))
simple_that test comma h = absurd (true≢false (sym h))
simple_that test closing h = absurd (true≢false (sym h))

all_simple : (test : Token → Bool) (ts : List Flat) → all_simple_pass test ts ≡ true → AreSimple ts
all_simple test [] h = tt
all_simple test (t ∷ ts) h = (simple_that test t (and_first (is_simple_that test t) (all_simple_pass test ts) h), all_simple test ts (and_second (is_simple_that test t) (all_simple_pass test ts) h))

some_simple : (test : Token → Bool) (ts : List Flat) → some_all_simple_pass test ts ≡ true → AreSimple ts
some_simple test [] h = tt
some_simple test (t ∷ ts) h = all_simple test (t ∷ ts) h

first_simple : (test : Token → Bool) (here : List Flat → Bool) → ((us : List Flat) → here us ≡ true → AreSimple us)
    → (ts : List Flat) → flat.first_and_rest test here ts ≡ true → AreSimple ts
first_simple test here are [] h = tt
first_simple test here are (t ∷ ts) h = (simple_that test t (and_first (is_simple_that test t) (here ts) h), are ts (and_second (is_simple_that test t) (here ts) h))

pub extension_simple : (ts : List Flat) → flat.is_extension ts ≡ true → AreSimple ts
extension_simple = first_simple is_dot (all_simple_pass is_plain) (all_simple is_plain)

star_extension_simple : (ts : List Flat) → flat.is_star_extension ts ≡ true → AreSimple ts
star_extension_simple = first_simple is_star flat.is_extension extension_simple

pub text_more : (t : Token) (ts : List Flat) (us : Tokens) → flat.literal_text ts ≡ tree.literal_text us → flat.literal_text (simple t ∷ ts) ≡ tree.literal_text (and_then t us)
text_more (Literal c) ts us e = ap (λ l. encode_utf8 c ++ l) e
text_more t ts us e = e

pub text_same : (ts : List Flat) → AreSimple ts → flat.literal_text ts ≡ tree.literal_text (tree_of ts)
text_same [] s = refl
text_same (simple t ∷ ts) s = text_more t ts (tree_of ts) (text_same ts s.1) ∙ ap tree.literal_text (sym (tree_simple t ts))
text_same (opening ∷ ts) s = absurd s.0
text_same (comma ∷ ts) s = absurd s.0
text_same (closing ∷ ts) s = absurd s.0

pub whole_path_text : (ts : List Flat) → flat.is_whole_path ts ≡ true → flat.literal_text ts ≡ tree.literal_text (tree_of ts)
whole_path_text ts h = text_same ts (some_simple (is_literal_except []) ts h)

pub last_component_text : (ts : List Flat) → flat.is_last_component ts ≡ true → flat.literal_text ts ≡ tree.literal_text (tree_of ts)
last_component_text ts h =
    text_same ts (first_simple is_prefix (some_all_simple_pass (is_literal_except (slash ∷ []))) (some_simple (is_literal_except (slash ∷ []))) ts h)

pub last_components_text : (ts : List Flat) → flat.is_last_components ts ≡ true → flat.literal_text ts ≡ tree.literal_text (tree_of ts)
last_components_text ts h = text_same ts (first_simple is_prefix flat.is_whole_path (some_simple (is_literal_except [])) ts h)

either_simple : (x y z : Bool) (ts : List Flat) → (x ≡ true → AreSimple ts) → (z ≡ true → AreSimple ts) → (x || (y && z)) ≡ true → AreSimple ts
either_simple true y z ts first second h = first refl
either_simple false y z ts first second h = second (and_second y z h)

pub any_extension_text : (o : Options) (ts : List Flat) → flat.is_any_extension o ts ≡ true → flat.literal_text ts ≡ tree.literal_text (tree_of ts)
any_extension_text o ts h =
    text_same ts (either_simple (flat.first_and_rest is_prefix flat.is_star_extension ts) (not o.literal_separator) (flat.is_star_extension ts) ts
    (first_simple is_prefix flat.is_star_extension star_extension_simple ts) (star_extension_simple ts) h)

star_literals_simple : (ts : List Flat) → flat.is_star_literals ts ≡ true → AreSimple ts
star_literals_simple = first_simple is_star flat.are_literals (all_simple (is_literal_except []))

pub end_text : (o : Options) (ts : List Flat) → flat.is_end o ts ≡ true → flat.literal_text ts ≡ tree.literal_text (tree_of ts)
end_text o ts h =
    text_same ts (either_simple (flat.first_and_rest is_prefix flat.is_star_literals ts) true (flat.is_star_literals ts) ts
    (first_simple is_prefix flat.is_star_literals star_literals_simple ts) (star_literals_simple ts)
    (and_second (not o.literal_separator) (flat.first_and_rest is_prefix flat.is_star_literals ts || flat.is_star_literals ts) h))

last_simple : (test : Token → Bool) (ts : List Flat) → flat.literals_and_last test ts ≡ true → AreSimple ts
last_simple test [] h = tt
last_simple test (t ∷ []) h = (simple_that test t h, tt)
last_simple test (t ∷ (u ∷ us)) h =
    let rest = flat.literals_and_last test (u ∷ us) in
    (simple_that (is_literal_except []) t (and_first (is_simple_that (is_literal_except []) t) rest h), last_simple test (u ∷ us) (and_second (is_simple_that (is_literal_except []) t) rest h))

alone_simple : (ts : List Flat) → flat.is_prefix_alone ts ≡ true → AreSimple ts
alone_simple [] h = tt
alone_simple (t ∷ []) h = (simple_that is_prefix t h, tt)
alone_simple (t ∷ (u ∷ us)) h = absurd (true≢false (sym h))

pub beginning_text : (o : Options) (ts : List Flat) → flat.is_beginning o ts ≡ true → flat.literal_text ts ≡ tree.literal_text (tree_of ts)
beginning_text o ts h =
    text_same ts (either_simple (flat.is_prefix_alone ts) (not o.literal_separator) (flat.literals_and_last is_star ts) ts (alone_simple ts) (last_simple is_star ts) h)

pub below_folder_text : (ts : List Flat) → flat.is_below_folder ts ≡ true → flat.literal_text ts ≡ tree.literal_text (tree_of ts)
below_folder_text ts h = text_same ts (last_simple is_suffix ts h)

-- ---- literals and one last token, as the program finds them

more_flat : (test : Token → Bool) (f : Flat) (front : List Flat) (t : Flat)
    → flat.literals_and_last test (f ∷ (front ++ t ∷ [])) ≡ (is_simple_that (is_literal_except []) f && flat.literals_and_last test (front ++ t ∷ []))
more_flat test f [] t = refl
more_flat test f (g ∷ front) t = refl

grouped : (a b c : Bool) → (a && (b && c)) ≡ ((a && b) && c)
grouped true b c = refl
grouped false b c = refl

front_and_last : (test : Token → Bool) (front : List Flat) (t : Flat) → flat.literals_and_last test (front ++ t ∷ []) ≡ (flat.are_literals front && is_simple_that test t)
front_and_last test [] t = refl
front_and_last test (f ∷ front) t =
    more_flat test f front t ∙ ap (λ b. is_simple_that (is_literal_except []) f && b) (front_and_last test front t) ∙ grouped (is_simple_that (is_literal_except []) f) (flat.are_literals front) (is_simple_that test t)

pub last_passes : (test : Token → Bool) (ts front : List held.Token) (t : held.Token) → ts ≡ front ++ t ∷ [] → is_simple_that test (flat_of t) ≡ true → flat.are_literals (flats front) ≡ flat.literals_and_last test (flats ts)
last_passes test ts front t e h =
    sym (and-true (flat.are_literals (flats front)))
    ∙ sym (ap (λ l. flat.literals_and_last test (flats l)) e ∙ ap (flat.literals_and_last test) (map-append flat_of front (t ∷ [])) ∙ front_and_last test (flats front) (flat_of t) ∙ ap (λ b. flat.are_literals (flats front) && b) h)

pub last_fails : (test : Token → Bool) (ts front : List held.Token) (t : held.Token) → ts ≡ front ++ t ∷ [] → is_simple_that test (flat_of t) ≡ false → false ≡ flat.literals_and_last test (flats ts)
last_fails test ts front t e h =
    sym (and_none (flat.are_literals (flats front)))
    ∙ sym (ap (λ l. flat.literals_and_last test (flats l)) e ∙ ap (flat.literals_and_last test) (map-append flat_of front (t ∷ [])) ∙ front_and_last test (flats front) (flat_of t) ∙ ap (λ b. flat.are_literals (flats front) && b) h)
