-- The ending of flat tokens is that of the tree that they have; and how it is found from the end.
use Rattle.std.proofs.Common.{◌≡◌, ℕ, zero, suc, ◌+◌, ◌-◌, Bool, true, false, true≢false, ◌&&◌, List, [], ◌∷◌, ◌++◌, length, take, drop, take_all, length-drop, Some, None, refl, ap, sym, ◌∙◌, arith}
use Rattle.std.specs.Prelude.{◌==◌, if◌then◌else◌}
use Rattle.std.proofs.lemmas.Bool.{eqb-true}
use Rattle.std.proofs.lemmas.List.{take-append-drop, map-append}
use Rattle.glob_syntax.specs.declared.token.Token as held
use Rattle.glob_syntax.specs.Token.{Token, Literal, Group, end, and_then, Branches, none, branch}
use Rattle.glob_syntax.specs.Reading.{Levels, in_branch, open_level, first_branch}
use Rattle.glob_syntax.specs.FlatTokens.{Flat, simple, opening, comma, closing, levels_of, tree_of, Nests, IsNested}
use Rattle.glob_syntax.specs.Views.{flat_of, flats}
use Rattle.glob_syntax.proofs.lemmas.FlatTokens.{depth}
use Rattle.bit_sets.proofs.lemmas.Booleans.{and_both, and_first, and_second, and_none}
use Rattle.glob_strategy.specs.Excluded.{is_dot}
use Rattle.glob_strategy.specs.TokenTests as tree
use Rattle.glob_strategy.specs.inner.FlatTests as flat
use Rattle.glob_strategy.specs.inner.FlatTests.{EndsInExtension, is_simple_that, all_simple_pass}
use Rattle.glob_strategy.proofs.lemmas.Excluded.{dot_is, simple_is}
use Rattle.glob_strategy.proofs.lemmas.FlatTests.{is_plain, tree_simple, all_same, extension_simple, text_more, text_same}

-- ---- the same ending

-- the outermost of some levels
abbrev outermost : Branches → List Branches → Branches
outermost bs [] = bs
outermost bs (outer ∷ more) = outermost outer more

sole : (bs : Branches) (more : List Branches) → length more ≡ 0 → outermost bs more ≡ bs
sole bs [] h = refl
sole bs (outer ∷ more) h = absurd (omega arith)

-- what changes the innermost of two levels or more does not change the outermost
inner_keeps : (bs cs : Branches) (more : List Branches) (n : ℕ) → length more ≡ suc n → outermost bs more ≡ outermost cs more
inner_keeps bs cs [] n h = absurd (omega arith)
inner_keeps bs cs (outer ∷ more) n h = refl

group_keeps : (bs outer : Branches) (more : List Branches) → tree.ending (first_branch (outermost (in_branch (Group bs ∷ []) outer) more)) ≡ tree.ending (first_branch (outermost outer more))
group_keeps bs none [] = refl
group_keeps bs (branch ts cs) [] = refl
group_keeps bs outer (next ∷ more) = refl

open_keeps : (l : Levels) (n : ℕ) → length l.1 ≡ suc n → tree.ending (first_branch (outermost (open_level l).0 (open_level l).1)) ≡ tree.ending (first_branch (outermost l.0 l.1))
open_keeps (bs, []) n h = absurd (omega arith)
open_keeps (bs, outer ∷ more) n h = group_keeps bs outer more

-- tokens that close a group do not all pass
closes : (test : Token → Bool) (n : ℕ) (ts : List Flat) → Nests (suc n) ts 0 → all_simple_pass test ts ≡ false
closes test n [] h = absurd (omega (arith, h))
closes test n (simple t ∷ ts) h = ap (λ b. test t && b) (closes test n ts h) ∙ and_none (test t)
closes test n (opening ∷ ts) h = refl
closes test n (comma ∷ ts) h = refl
closes test n (closing ∷ ts) h = refl

-- one more token that is no brace or comma, outside all groups
ending_simple : (t : Token) (ts : List Flat) → IsNested ts → flat.ending ts ≡ tree.ending (tree_of ts) → flat.ending (simple t ∷ ts) ≡ tree.ending (and_then t (tree_of ts))
ending_simple t ts n same = by_case (flat.is_extension (simple t ∷ ts)) refl
  where
    is : flat.is_extension (simple t ∷ ts) ≡ tree.is_extension (and_then t (tree_of ts))
    is = ap (λ b. is_dot t && b) (all_same is_plain (λ bs. refl) ts n)

    by_case : (b : Bool) → flat.is_extension (simple t ∷ ts) ≡ b → flat.ending (simple t ∷ ts) ≡ tree.ending (and_then t (tree_of ts))
    by_case true h =
        ap (λ b. if b then Some (flat.literal_text (simple t ∷ ts)) else flat.ending ts) h
        ∙ ap Some (text_more t ts (tree_of ts) (text_same ts (extension_simple (simple t ∷ ts) h).1))
        ∙ sym (ap (λ b. if b then Some (tree.literal_text (and_then t (tree_of ts))) else tree.ending (tree_of ts)) (sym is ∙ h))
    by_case false h =
        ap (λ b. if b then Some (flat.literal_text (simple t ∷ ts)) else flat.ending ts) h
        ∙ same
        ∙ sym (ap (λ b. if b then Some (tree.literal_text (and_then t (tree_of ts))) else tree.ending (tree_of ts)) (sym is ∙ h))

-- the ending of the last tokens of a list, after n open groups, is that of the outermost level
ending_at : (n : ℕ) (ts : List Flat) → Nests n ts 0 → flat.ending ts ≡ tree.ending (first_branch (outermost (levels_of ts).0 (levels_of ts).1))
ending_at n [] h = refl
ending_at zero (simple t ∷ ts) h =
    let l = levels_of ts in
    let alone = depth zero ts h in
    ending_simple t ts h (ending_at zero ts h ∙ ap (λ bs. tree.ending (first_branch bs)) (sole l.0 l.1 alone))
    ∙ ap tree.ending (sym (tree_simple t ts))
    ∙ ap (λ bs. tree.ending (first_branch bs)) (sym (sole (in_branch (t ∷ []) l.0) l.1 alone))
ending_at (suc n) (simple t ∷ ts) h =
    let l = levels_of ts in
    ap (λ b. if b then Some (flat.literal_text (simple t ∷ ts)) else flat.ending ts) (ap (λ b. is_dot t && b) (closes is_plain n ts h) ∙ and_none (is_dot t))
    ∙ ending_at (suc n) ts h
    ∙ ap (λ bs. tree.ending (first_branch bs)) (inner_keeps l.0 (in_branch (t ∷ []) l.0) l.1 n (depth (suc n) ts h))
ending_at n (opening ∷ ts) h = ending_at (suc n) ts h ∙ sym (open_keeps (levels_of ts) n (depth (suc n) ts h))
ending_at zero (comma ∷ ts) h = absurd h
ending_at (suc n) (comma ∷ ts) h =
    let l = levels_of ts in
    ending_at (suc n) ts h ∙ ap (λ bs. tree.ending (first_branch bs)) (inner_keeps l.0 (branch end l.0) l.1 n (depth (suc n) ts h))
ending_at zero (closing ∷ ts) h = absurd h
ending_at (suc n) (closing ∷ ts) h = ending_at n ts h

pub ending_same : (ts : List Flat) → IsNested ts → flat.ending ts ≡ tree.ending (tree_of ts)
ending_same ts n = ending_at 0 ts n ∙ ap (λ bs. tree.ending (first_branch bs)) (sole (levels_of ts).0 (levels_of ts).1 (depth 0 ts n))

-- ---- from the end of the tokens

-- a token that fails, among others
stops : (front : List Flat) (t : Flat) (back : List Flat) → is_simple_that is_plain t ≡ false → all_simple_pass is_plain (front ++ t ∷ back) ≡ false
stops [] t back h = ap (λ b. b && all_simple_pass is_plain back) h
stops (f ∷ front) t back h = ap (λ b. is_simple_that is_plain f && b) (stops front t back h) ∙ and_none (is_simple_that is_plain f)

-- a token before one that fails begins no extension
no_extension : (f : Flat) (front : List Flat) (t : Flat) (back : List Flat) → is_simple_that is_plain t ≡ false → flat.is_extension (f ∷ (front ++ t ∷ back)) ≡ false
no_extension f front t back h = ap (λ b. is_simple_that is_dot f && b) (stops front t back h) ∙ and_none (is_simple_that is_dot f)

skipped : (f : Flat) (ts : List Flat) → flat.is_extension (f ∷ ts) ≡ false → flat.ending (f ∷ ts) ≡ flat.ending ts
skipped f ts h = ap (λ b. if b then Some (flat.literal_text (f ∷ ts)) else flat.ending ts) h

abbrev dot_token : Flat
dot_token = simple (Literal 46)

-- a `.`, and after it nothing that fails
dot_ends : (front back : List Flat) → all_simple_pass is_plain back ≡ true → flat.ending (front ++ dot_token ∷ back) ≡ Some (flat.literal_text (dot_token ∷ back))
dot_ends [] back h = ap (λ b. if b then Some (flat.literal_text (dot_token ∷ back)) else flat.ending back) h
dot_ends (f ∷ front) back h = skipped f (front ++ dot_token ∷ back) (no_extension f front dot_token back refl) ∙ dot_ends front back h

plain_is_no_dot : (t : Flat) → is_simple_that is_plain t ≡ true → is_simple_that is_dot t ≡ false
plain_is_no_dot (simple (Literal c)) h = by_case (c == 46) refl
  where
    by_case : (b : Bool) → (c == 46) ≡ b → b ≡ false
    by_case false e = refl
    by_case true e =
        let is : c ≡ 46 = eqb-true c 46 e in
        absurd (true≢false (sym h ∙ ap (λ d. is_plain (Literal d)) is))
plain_is_no_dot (simple t) h = refl
plain_is_no_dot opening h = refl
plain_is_no_dot comma h = refl
plain_is_no_dot closing h = refl

pub plain_ends : (back : List Flat) → all_simple_pass is_plain back ≡ true → flat.ending back ≡ None
plain_ends [] h = refl
plain_ends (t ∷ ts) h =
    skipped t ts (ap (λ b. b && all_simple_pass is_plain ts) (plain_is_no_dot t (and_first (is_simple_that is_plain t) (all_simple_pass is_plain ts) h)))
    ∙ plain_ends ts (and_second (is_simple_that is_plain t) (all_simple_pass is_plain ts) h)

-- a token that fails and is no `.`, and after it none that fails
other_ends : (front : List Flat) (t : Flat) (back : List Flat) → is_simple_that is_plain t ≡ false → is_simple_that is_dot t ≡ false → all_simple_pass is_plain back ≡ true
    → flat.ending (front ++ t ∷ back) ≡ None
other_ends [] t back fails no_dot h = skipped t back (ap (λ b. b && all_simple_pass is_plain back) no_dot) ∙ plain_ends back h
other_ends (f ∷ front) t back fails no_dot h = skipped f (front ++ t ∷ back) (no_extension f front t back fails) ∙ other_ends front t back fails no_dot h

-- ---- at the values that the program holds

cut_at : (ts : List held.Token) (j : ℕ) (t : held.Token) → drop j ts ≡ t ∷ drop (j + 1) ts → flats ts ≡ flats (take j ts) ++ flat_of t ∷ flats (drop (j + 1) ts)
cut_at ts j t e = ap flats (sym (take-append-drop j ts) ∙ ap (λ l. take j ts ++ l) e) ∙ map-append flat_of (take j ts) (t ∷ drop (j + 1) ts)

-- the token at j is a `.`, and those after it are plain
pub dot_found : (ts : List held.Token) (j : ℕ) (t : held.Token) → drop j ts ≡ t ∷ drop (j + 1) ts → is_simple_that is_dot (flat_of t) ≡ true → all_simple_pass is_plain (flats (drop (j + 1) ts)) ≡ true
    → Some (flat.literal_text (flats (take (length ts - j) (drop j ts)))) ≡ flat.ending (flats ts)
dot_found ts j t e dot plain =
    let back = flats (drop (j + 1) ts) in
    let is : flat_of t ≡ dot_token = simple_is is_dot (Literal 46) (flat_of t) dot_is dot in
    ap (λ l. Some (flat.literal_text (flats l))) (take_all (length ts - j) (drop j ts) (omega (arith, length-drop j ts)) ∙ e)
    ∙ ap (λ f. Some (flat.literal_text (f ∷ back))) is
    ∙ sym (ap flat.ending (cut_at ts j t e ∙ ap (λ f. flats (take j ts) ++ f ∷ back) is) ∙ dot_ends (flats (take j ts)) back plain)

pub dot_cut : (ts : List held.Token) (j : ℕ) (t : held.Token) → drop j ts ≡ t ∷ drop (j + 1) ts → is_simple_that is_dot (flat_of t) ≡ true → all_simple_pass is_plain (flats (drop (j + 1) ts)) ≡ true
    → EndsInExtension ts (take (length ts - j) (drop j ts))
dot_cut ts j t e dot plain =
    let all : take (length ts - j) (drop j ts) ≡ drop j ts = take_all (length ts - j) (drop j ts) (omega (arith, length-drop j ts)) in record {
      before = take j ts;
      cut = sym (take-append-drop j ts) ∙ ap (λ l. take j ts ++ l) (sym all);
      extension = ap (λ l. flat.is_extension (flats l)) (all ∙ e) ∙ and_both (is_simple_that is_dot (flat_of t)) (all_simple_pass is_plain (flats (drop (j + 1) ts))) dot plain;
    }

-- the token at j is neither plain nor a `.`, and those after it are plain
pub none_found : (ts : List held.Token) (j : ℕ) (t : held.Token) → drop j ts ≡ t ∷ drop (j + 1) ts → is_simple_that is_plain (flat_of t) ≡ false → is_simple_that is_dot (flat_of t) ≡ false
    → all_simple_pass is_plain (flats (drop (j + 1) ts)) ≡ true → None ≡ flat.ending (flats ts)
none_found ts j t e fails no_dot plain =
    sym (ap flat.ending (cut_at ts j t e) ∙ other_ends (flats (take j ts)) (flat_of t) (flats (drop (j + 1) ts)) fails no_dot plain)
