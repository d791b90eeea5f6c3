-- Which globs are excluded, by their tokens.
use Rattle.std.proofs.Common.{◌≡◌, List, [], ◌∷◌, length, map, get_or, Bool, true, false, not, ◌&&◌, refl, ap, sym, ◌∙◌, arith}
use Rattle.std.proofs.lemmas.Bool.{eqb-true}
use Rattle.std.proofs.lemmas.List.{length-map}
use Rattle.glob_syntax.specs.declared.token.Token as held
use Rattle.glob_syntax.specs.Token.{Token, Literal, Any, ZeroOrMore, RecursivePrefix, RecursiveSuffix, RecursiveZeroOrMore, Class, Group, Tokens, end, and_then, before}
use Rattle.glob_syntax.specs.FlatTokens.{Flat, simple, opening, comma, closing, tree_of, IsNested}
use Rattle.glob_syntax.specs.TokensMatch.{is_prefix}
use Rattle.glob_syntax.specs.declared.options.Options.{Options}
use Rattle.glob_syntax.specs.Views.{flat_of, flats, tokens_of}
use Rattle.glob_syntax.proofs.lemmas.FlatTrees.{spelled}
use Rattle.glob_syntax.proofs.lemmas.TokenLists.{prefix_is}
use Rattle.glob_strategy.specs.Excluded.{are_excluded, is_dot, is_prefix_dot_dot}
use Rattle.glob_strategy.specs.inner.FlatTests.{is_simple_that}

excluded_is : (o : Options) (ts : Tokens) → (not o.case_insensitive && is_prefix_dot_dot ts) ≡ are_excluded o ts
excluded_is o ts = refl

-- a case-insensitive glob is not excluded
pub not_insensitive : (o : Options) (ts : Tokens) → o.case_insensitive ≡ true → false ≡ are_excluded o ts
not_insensitive o ts h = rw h refl

never : (b c : Bool) → c ≡ false → false ≡ (b && c)
never true c h = sym h
never false c h = refl

-- a glob of other tokens is not excluded
pub not_other : (o : Options) (ts : Tokens) → is_prefix_dot_dot ts ≡ false → false ≡ are_excluded o ts
not_other o ts e = never (not o.case_insensitive) (is_prefix_dot_dot ts) e ∙ excluded_is o ts

-- a case-sensitive glob is excluded if and only if its tokens are those of `**/..`
pub by_tokens : (o : Options) (ts : Tokens) → o.case_insensitive ≡ false → is_prefix_dot_dot ts ≡ are_excluded o ts
by_tokens o ts e = ap (λ b. not b && is_prefix_dot_dot ts) (sym e) ∙ excluded_is o ts

-- ---- the one list of tokens that is excluded

abbrev pub prefix_dot_dot : List Token
prefix_dot_dot = RecursivePrefix ∷ Literal 46 ∷ Literal 46 ∷ []

pub dot_is : (t : Token) → is_dot t ≡ true → t ≡ Literal 46
dot_is (Literal c) e = ap Literal (eqb-true c 46 e)
dot_is Any e = absurd cc
dot_is ZeroOrMore e = absurd cc
dot_is RecursivePrefix e = absurd cc
dot_is RecursiveSuffix e = absurd cc
dot_is RecursiveZeroOrMore e = absurd cc
dot_is (Class negated rs) e = absurd cc
dot_is (Group bs) e = absurd cc

all_three : (p q r : Bool) → (p && (q && r)) ≡ true → (p ≡ true) × (q ≡ true) × (r ≡ true)
all_three true true r e = (refl, refl, e)
all_three true false r e = absurd cc
all_three false q r e = absurd cc

tree_is : (ts : Tokens) → is_prefix_dot_dot ts ≡ true → ts ≡ before prefix_dot_dot end
tree_is end e = absurd cc
tree_is (and_then t end) e = absurd cc
tree_is (and_then t (and_then u end)) e = absurd cc
tree_is (and_then t (and_then u (and_then v end))) e =
    let (p, q, r) = all_three (is_prefix t) (is_dot u) (is_dot v) e in
    (λ i. and_then (prefix_is t p i) (and_then (dot_is u q i) (and_then (dot_is v r i) end)))
tree_is (and_then t (and_then u (and_then v (and_then w ts)))) e = absurd cc

list_is : (ts : List held.Token) → IsNested (flats ts) → is_prefix_dot_dot (tokens_of ts) ≡ true → flats ts ≡ map simple prefix_dot_dot
list_is ts nested e = spelled (flats ts) prefix_dot_dot nested (tt, (tt, (tt, tt))) (tree_is (tokens_of ts) e)

-- ---- what the program tests

pub other_length : (ts : List held.Token) → IsNested (flats ts) → (length ts ≡ 3 → ⊥) → is_prefix_dot_dot (tokens_of ts) ≡ false
other_length ts nested other = by_case (is_prefix_dot_dot (tokens_of ts)) refl
  where
    by_case : (b : Bool) → is_prefix_dot_dot (tokens_of ts) ≡ b → b ≡ false
    by_case true e = let n = ap length (list_is ts nested e) in let m = length-map ts flat_of in absurd (other (omega arith))
    by_case false e = refl

pub simple_is : (test : Token → Bool) (t : Token) (f : Flat) → ((u : Token) → test u ≡ true → u ≡ t) → is_simple_that test f ≡ true → f ≡ simple t
simple_is test t (simple u) is e = ap simple (is u e)
simple_is test t opening is e = absurd cc
simple_is test t comma is e = absurd cc
simple_is test t closing is e = absurd cc

pub three_tests : (a b c : held.Token) → IsNested (flats (a ∷ b ∷ c ∷ []))
    → (is_simple_that is_prefix (flat_of a) && (is_simple_that is_dot (flat_of b) && is_simple_that is_dot (flat_of c))) ≡ is_prefix_dot_dot (tokens_of (a ∷ b ∷ c ∷ []))
three_tests a b c nested = by_case (is_prefix_dot_dot (tokens_of (a ∷ b ∷ c ∷ []))) (is_simple_that is_prefix (flat_of a) && (is_simple_that is_dot (flat_of b) && is_simple_that is_dot (flat_of c))) refl refl
  where
    of_list : (x y z : Flat) → x ∷ y ∷ z ∷ [] ≡ map simple prefix_dot_dot → (is_simple_that is_prefix x && (is_simple_that is_dot y && is_simple_that is_dot z)) ≡ true
    of_list x y z e =
        let i : x ≡ simple RecursivePrefix = cc in let j : y ≡ simple (Literal 46) = cc in let k : z ≡ simple (Literal 46) = cc in
        rw (i, j, k) refl

    of_tests : (x y z : Flat) → (is_simple_that is_prefix x && (is_simple_that is_dot y && is_simple_that is_dot z)) ≡ true → is_prefix_dot_dot (tree_of (x ∷ y ∷ z ∷ [])) ≡ true
    of_tests x y z e =
        let (p, q, r) = all_three (is_simple_that is_prefix x) (is_simple_that is_dot y) (is_simple_that is_dot z) e in
        let i : x ≡ simple RecursivePrefix = simple_is is_prefix RecursivePrefix x prefix_is p in
        let j : y ≡ simple (Literal 46) = simple_is is_dot (Literal 46) y dot_is q in
        let k : z ≡ simple (Literal 46) = simple_is is_dot (Literal 46) z dot_is r in
        rw (i, j, k) refl

    by_case : (whole tests : Bool) → is_prefix_dot_dot (tokens_of (a ∷ b ∷ c ∷ [])) ≡ whole
        → (is_simple_that is_prefix (flat_of a) && (is_simple_that is_dot (flat_of b) && is_simple_that is_dot (flat_of c))) ≡ tests → tests ≡ whole
    by_case true tests e f = sym f ∙ of_list (flat_of a) (flat_of b) (flat_of c) (list_is (a ∷ b ∷ c ∷ []) nested e)
    by_case false true e f = sym (of_tests (flat_of a) (flat_of b) (flat_of c) f) ∙ e
    by_case false false e f = refl

pub of_three : (ts : List held.Token) (a b c : held.Token) → IsNested (flats ts) → length ts ≡ 3 → a ≡ get_or ts 0 a → b ≡ get_or ts 1 b → c ≡ get_or ts 2 c
    → (is_simple_that is_prefix (flat_of a) && (is_simple_that is_dot (flat_of b) && is_simple_that is_dot (flat_of c))) ≡ is_prefix_dot_dot (tokens_of ts)
of_three [] a b c nested n ea eb ec = absurd (omega arith)
of_three (x ∷ []) a b c nested n ea eb ec = absurd (omega arith)
of_three (x ∷ y ∷ []) a b c nested n ea eb ec = absurd (omega arith)
of_three (x ∷ y ∷ z ∷ []) a b c nested n ea eb ec =
    (λ i. is_simple_that is_prefix (flat_of (ea i)) && (is_simple_that is_dot (flat_of (eb i)) && is_simple_that is_dot (flat_of (ec i)))) ∙ three_tests x y z nested
of_three (x ∷ y ∷ z ∷ w ∷ ts) a b c nested n ea eb ec = absurd (omega arith)

-- ---- three tests, each made only if those before it held

pub first_two_hold : (p q r : Bool) → p ≡ true → q ≡ true → r ≡ (p && (q && r))
first_two_hold true true r hp hq = refl
first_two_hold true false r hp hq = absurd (cc)
first_two_hold false q r hp hq = absurd (cc)

pub second_fails : (p q r : Bool) → q ≡ false → false ≡ (p && (q && r))
second_fails p true r h = absurd (cc)
second_fails true false r h = refl
second_fails false false r h = refl

pub first_fails : (p q r : Bool) → p ≡ false → false ≡ (p && (q && r))
first_fails true q r h = absurd (cc)
first_fails false q r h = refl
