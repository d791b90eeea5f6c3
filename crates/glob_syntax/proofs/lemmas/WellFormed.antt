-- Every reading is well formed.
use Rattle.std.proofs.Common.{◌≡◌, ℕ, zero, suc, ◌+◌, ◌≤◌, List, [], ◌∷◌, Bool, true, false, ◌&&◌, Option, Some, None, Result, Ok, Err, take, drop, replicate, length, ◌==◌, refl, subst, arith}
use Rattle.std.specs.Prelude.{nat_lt}
use Rattle.std.specs.Char.{IsScalar}
use Rattle.std.specs.List.{position}
use Rattle.std.proofs.lemmas.Bool.{and_parts, cond_both}
use Rattle.std.proofs.Math.Numerals.{add-one}
use lib.Utf8.{scalar, scalars}
use Rattle.glob_syntax.specs.declared.options.Options.{Options}
use Rattle.glob_syntax.specs.declared.parse_error_kind.ParseErrorKind.{ParseErrorKind}
use Rattle.glob_syntax.specs.declared.parse_error_kind.ParseErrorKind.TheVariants.{UnclosedClass}
use Rattle.glob_syntax.specs.Token.{Token, Literal, ZeroOrMore, RecursivePrefix, Group, Tokens, end, and_then, Branches, none, branch, before}
use Rattle.glob_syntax.specs.Ranges.{chain, after_hyphen, ranges, bad_range, is_hyphen}
use Rattle.glob_syntax.specs.Lexemes.{Lexeme, Char, One, Stars, Class, Open, Comma, Close, Bad, is_closer, is_negated, class_lexeme, unclosed_lexeme, class_at, escape_at, lexeme_at, lexemes}
use Rattle.glob_syntax.specs.Nesting.{nested_lexeme, with_lexeme, nested}
use Rattle.glob_syntax.specs.Stars.{last_run, pairs, run_cut, slash_cut, slash_piece, piece}
use Rattle.glob_syntax.specs.Reading.{Levels, in_branch, open_level, levels, first_branch, is_whole_run, whole, whole_or_parse_error, reading}
use Rattle.glob_syntax.specs.inner.WellFormed.{AreScalars, IsWellFormed, AreWellFormed, AllWellFormed}

-- ---- lists of characters

scalars_drop : (n : ℕ) (cs : List ℕ) → scalars cs ≡ true → scalars (drop n cs) ≡ true
scalars_drop zero cs h = h
scalars_drop (suc n) [] h = refl
scalars_drop (suc n) (c ∷ cs) h = scalars_drop n cs (and_parts (scalar c) (scalars cs) h).1

scalars_take : (n : ℕ) (cs : List ℕ) → scalars cs ≡ true → scalars (take n cs) ≡ true
scalars_take zero cs h = refl
scalars_take (suc n) [] h = refl
scalars_take (suc n) (c ∷ cs) h = let p = and_parts (scalar c) (scalars cs) h in rw (p.0, scalars_take n cs p.1) refl

-- ---- the ranges of a body

mutual
  -- the ends of ranges are characters of the body
  chain_scalars : (c z : ℕ) (cs : List ℕ) → IsScalar c → IsScalar z → scalars cs ≡ true → AreScalars (chain c z cs)
  chain_scalars c z [] hc hz h = (hc, hz, tt)
  chain_scalars c z (d ∷ rest) hc hz h =
      let p = and_parts (scalar d) (scalars rest) h in
      elim (is_hyphen d) as (λ q. AreScalars (elim q [ true ↦ after_hyphen c z rest | false ↦ (c, z) ∷ chain d d rest ])) [
        | true ↦ after_hyphen_scalars c z rest hc hz p.1
        | false ↦ (hc, hz, chain_scalars d d rest p.0 p.0 p.1)
      ]

  after_hyphen_scalars : (c z : ℕ) (cs : List ℕ) → IsScalar c → IsScalar z → scalars cs ≡ true → AreScalars (after_hyphen c z cs)
  after_hyphen_scalars c z [] hc hz h = (hc, hz, (refl, refl, tt))
  after_hyphen_scalars c z (x ∷ rest) hc hz h = let p = and_parts (scalar x) (scalars rest) h in chain_scalars c x rest hc p.0 p.1

mutual
  -- a body has a range
  chain_some : (c z : ℕ) (cs : List ℕ) → 1 ≤ length (chain c z cs)
  chain_some c z [] = omega arith
  chain_some c z (d ∷ rest) = elim (is_hyphen d) as (λ q. let xs : List (ℕ × ℕ) = elim q [ true ↦ after_hyphen c z rest | false ↦ (c, z) ∷ chain d d rest ] in 1 ≤ length xs) [
    | true ↦ after_hyphen_some c z rest
    | false ↦ let e : 1 ≤ length ((c, z) ∷ chain d d rest) = omega arith in e
  ]

  after_hyphen_some : (c z : ℕ) (cs : List ℕ) → 1 ≤ length (after_hyphen c z cs)
  after_hyphen_some c z [] = omega arith
  after_hyphen_some c z (x ∷ rest) = chain_some c x rest

-- ---- lexemes

-- a lexeme whose token is well formed
abbrev IsGood : Lexeme → Type 0
IsGood (Char escaped c) = IsScalar c
IsGood One = Unit {0}
IsGood (Stars n) = Unit {0}
IsGood (Class negated rs) = AreScalars rs × (1 ≤ length rs)
IsGood Open = Unit {0}
IsGood Comma = Unit {0}
IsGood Close = Unit {0}
IsGood (Bad f) = Unit {0}

abbrev AreGood : List Lexeme → Type 0
AreGood [] = Unit {0}
AreGood (m ∷ ms) = IsGood m × AreGood ms

-- the lexeme of a closed class
class_good : (negated : Bool) (k : ℕ) (c : ℕ) (cs : List ℕ) → scalars (c ∷ cs) ≡ true → IsGood (class_lexeme negated (take (k + 1) (c ∷ cs)))
unfolding ranges
class_good negated k c cs h =
    let p = and_parts (scalar c) (scalars cs) h in
    let e : take (k + 1) (c ∷ cs) ≡ c ∷ take k cs = rw add-one refl in
    elim (bad_range (take (k + 1) (c ∷ cs))) as (λ r. IsGood (elim r [ None ↦ Class negated (ranges (take (k + 1) (c ∷ cs))) | Some f ↦ Bad f ])) [
      | None ↦ rw e (chain_scalars c c (take k cs) p.0 p.0 (scalars_take k cs p.1), chain_some c c (take k cs))
      | Some f ↦ tt
    ]

unclosed_good : (o : Options) (cs : List ℕ) → IsGood (unclosed_lexeme o cs)
unclosed_good o cs = elim o.allow_unclosed_class as (λ q. IsGood (elim q [ true ↦ Char false 91 | false ↦ elim (bad_range cs) [ None ↦ Bad UnclosedClass | Some f ↦ Bad f ] ])) [
  | true ↦ refl
  | false ↦ elim (bad_range cs) as (λ r. IsGood (elim r [ None ↦ Bad UnclosedClass | Some f ↦ Bad f ])) [ None ↦ tt | Some f ↦ tt ]
]

-- the lexeme at a `[`, by the position of the `]` after the first member
abbrev at_closer : Options → ℕ → Bool → List ℕ → Option ℕ → Lexeme × ℕ
at_closer o n negated cs r = let m : Option ℕ = elim r [ None ↦ None | Some k ↦ Some (k + 1) ] in elim m [ None ↦ (unclosed_lexeme o cs, 0) | Some k ↦ (class_lexeme negated (take k cs), n + k + 1) ]

class_at_good : (o : Options) (n : ℕ) (negated : Bool) (cs : List ℕ) → scalars cs ≡ true → IsGood (class_at o n negated cs).0
class_at_good o n negated [] h = unclosed_good o []
class_at_good o n negated (c ∷ cs) h = elim (position is_closer cs) as (λ r. IsGood (at_closer o n negated (c ∷ cs) r).0) [
  | None ↦ unclosed_good o (c ∷ cs)
  | Some k ↦ class_good negated k c cs h
]

escape_good : (cs : List ℕ) → scalars cs ≡ true → IsGood (escape_at cs).0
escape_good [] h = tt
escape_good (c ∷ cs) h = (and_parts (scalar c) (scalars cs) h).0

abbrev IsFirstGood : Lexeme × ℕ → Type 0
IsFirstGood p = IsGood p.0

-- the lexeme at any position is good
lexeme_at_good : (o : Options) (c : ℕ) (cs : List ℕ) → IsScalar c → scalars cs ≡ true → IsGood (lexeme_at o c cs).0
unfolding lexeme_at
lexeme_at_good o c cs hc h =
    cond_both (c == 63) _ _ IsFirstGood (λ e. tt)
    (λ e1. cond_both (c == 42) _ _ IsFirstGood (λ e. tt)
    (λ e2. cond_both (c == 91) _ _ IsFirstGood (λ e. cond_both (is_negated cs) _ _ IsFirstGood (λ g. class_at_good o 1 true (drop 1 cs) (scalars_drop 1 cs h)) (λ g. class_at_good o 0 false cs h))
    (λ e3. cond_both (c == 123) _ _ IsFirstGood (λ e. tt)
    (λ e4. cond_both (c == 125) _ _ IsFirstGood (λ e. tt)
    (λ e5. cond_both (c == 44) _ _ IsFirstGood (λ e. tt)
    (λ e6. cond_both (c == 92 && o.backslash_escape) _ _ IsFirstGood (λ e. escape_good cs h) (λ e. hc)))))))

-- so all lexemes are
lexemes_good : (o : Options) (n : ℕ) (cs : List ℕ) → scalars cs ≡ true → AreGood (lexemes o n cs)
unfolding lexemes
lexemes_good o n [] h = tt
lexemes_good o (suc n) (c ∷ cs) h = lexemes_good o n cs (and_parts (scalar c) (scalars cs) h).1
lexemes_good o zero (c ∷ cs) h = let p = and_parts (scalar c) (scalars cs) h in (lexeme_at_good o c cs p.0 p.1, lexemes_good o (lexeme_at o c cs).1 cs p.1)

-- ---- nesting

-- nesting keeps them good
nested_lexeme_good : (d : ℕ) (m : Lexeme) (s : ℕ × Lexeme) → IsGood m → nested_lexeme d m ≡ Ok s → IsGood s.1
nested_lexeme_good d (Char escaped c) s h e = let g : (d, Char escaped c) ≡ s = cc in subst (λ p. IsGood p.1) g h
nested_lexeme_good d One s h e = let g : (d, One) ≡ s = cc in subst (λ p. IsGood p.1) g tt
nested_lexeme_good d (Stars n) s h e = let g : (d, Stars n) ≡ s = cc in subst (λ p. IsGood p.1) g tt
nested_lexeme_good d (Class negated rs) s h e = let g : (d, Class negated rs) ≡ s = cc in subst (λ p. IsGood p.1) g h
nested_lexeme_good d Open s h e = let g : (suc d, Open) ≡ s = cc in subst (λ p. IsGood p.1) g tt
nested_lexeme_good zero Comma s h e = let g : (zero, Char false 44) ≡ s = cc in subst (λ p. IsGood p.1) g refl
nested_lexeme_good (suc d) Comma s h e = let g : (suc d, Comma) ≡ s = cc in subst (λ p. IsGood p.1) g tt
nested_lexeme_good zero Close s h e = absurd cc
nested_lexeme_good (suc d) Close s h e = let g : (d, Close) ≡ s = cc in subst (λ p. IsGood p.1) g tt
nested_lexeme_good d (Bad f) s h e = absurd cc

with_good : (m : Lexeme) (r : Result (List Lexeme) ParseErrorKind) (ks : List Lexeme) → IsGood m → ((ls : List Lexeme) → r ≡ Ok ls → AreGood ls) → with_lexeme m r ≡ Ok ks → AreGood ks
with_good m (Ok ls) ks hm h e = let g : m ∷ ls ≡ ks = cc in subst AreGood g (hm, h ls refl)
with_good m (Err f) ks hm h e = absurd cc

-- all of them
nested_good : (d : ℕ) (ms ks : List Lexeme) → AreGood ms → nested d ms ≡ Ok ks → AreGood ks
unfolding nested
nested_good zero [] ks h e = let g : [] ≡ ks = cc in subst AreGood g tt
nested_good (suc d) [] ks h e = absurd cc
nested_good d (m ∷ ms) ks (hm, hms) e = step (λ k ls g. nested_good k ms ls hms g) (nested_lexeme d m) refl e
  where
    step : ((k : ℕ) (ls : List Lexeme) → nested k ms ≡ Ok ls → AreGood ls) → (r : Result (ℕ × Lexeme) ParseErrorKind) → nested_lexeme d m ≡ r → (let x : Result (List Lexeme) ParseErrorKind = elim r [ Err f ↦ Err f | Ok s ↦ with_lexeme s.1 (nested s.0 ms) ] in x ≡ Ok ks) → AreGood ks
    step deep (Err f) q e' = absurd cc
    step deep (Ok s) q e' = with_good s.1 (nested s.0 ms) ks (nested_lexeme_good d m s hm q) (deep s.0) e'

-- ---- pieces

abbrev AllTokens : List Token → Type 0
AllTokens [] = Unit {0}
AllTokens (t ∷ ts) = IsWellFormed t × AllTokens ts

stars_good : (n : ℕ) → AllTokens (replicate n ZeroOrMore)
stars_good zero = tt
stars_good (suc n) = (tt, stars_good n)

run_cut_good : (a b : Bool) (n k : ℕ) → AllTokens (run_cut a b n k).0
run_cut_good false last n k = stars_good n
run_cut_good true true n k = (tt, tt)
run_cut_good true false n k = (tt, tt)

slash_cut_good : (a b : Bool) (k : ℕ) → AllTokens (slash_cut a b k).0
slash_cut_good true some k = (tt, tt)
slash_cut_good false true k = (tt, tt)
slash_cut_good false false k = (refl, tt)

abbrev char_cut : Bool → ℕ → List Lexeme → List Token × ℕ
char_cut b c ms = elim b [ true ↦ slash_piece ms | false ↦ (Literal c ∷ [], 0) ]

char_cut_good : (b : Bool) (c : ℕ) (ms : List Lexeme) → IsScalar c → AllTokens (char_cut b c ms).0
char_cut_good true c ms h = slash_cut_good (last_run (drop (pairs ms) ms)) (nat_lt 0 (pairs ms)) (pairs ms)
char_cut_good false c ms h = (h, tt)

-- a piece of good lexemes has well-formed tokens
piece_good : (start : Bool) (m : Lexeme) (ms : List Lexeme) → IsGood m → AllTokens (piece start m ms).0
unfolding piece
piece_good start (Stars n) ms h = let all = Stars n ∷ ms in run_cut_good (start && nat_lt 0 (pairs all)) (last_run (drop (pairs all) all)) n (pairs all)
piece_good start (Char escaped c) ms h = char_cut_good (c == 47) c ms h
piece_good start One ms h = (tt, tt)
piece_good start (Class negated rs) ms h = (h, tt)
piece_good start Open ms h = tt
piece_good start Comma ms h = tt
piece_good start Close ms h = tt
piece_good start (Bad f) ms h = tt

-- ---- branches

abbrev AllLevels : List Branches → Type 0
AllLevels [] = Unit {0}
AllLevels (bs ∷ more) = AllWellFormed bs × AllLevels more

abbrev AreLevels : Levels → Type 0
AreLevels ls = AllWellFormed ls.0 × AllLevels ls.1

before_good : (front : List Token) (ts : Tokens) → AllTokens front → AreWellFormed ts → AreWellFormed (before front ts)
before_good [] ts h w = w
before_good (t ∷ front) ts (ht, h) w = (ht, before_good front ts h w)

in_branch_good : (front : List Token) (bs : Branches) → AllTokens front → AllWellFormed bs → AllWellFormed (in_branch front bs)
in_branch_good front none h w = tt
in_branch_good front (branch ts bs) h (w, ws) = (before_good front ts h w, ws)

open_good : (ls : Levels) → AreLevels ls → AreLevels (open_level ls)
open_good (bs, []) h = h
open_good (bs, outer ∷ more) (hb, (ho, hm)) = (in_branch_good (Group bs ∷ []) outer (hb, tt) ho, hm)

-- and groups keep them well formed
levels_good : (n : ℕ) (start : Bool) (ms : List Lexeme) → AreGood ms → AreLevels (levels n start ms)
unfolding levels
levels_good n start [] h = ((tt, tt), tt)
levels_good (suc n) start (m ∷ ms) (hm, h) = levels_good n start ms h
levels_good zero start (Open ∷ ms) (hm, h) = open_good (levels zero true ms) (levels_good zero true ms h)
levels_good zero start (Comma ∷ ms) (hm, h) = let l = levels_good zero true ms h in ((tt, l.0), l.1)
levels_good zero start (Close ∷ ms) (hm, h) = let l = levels_good zero false ms h in ((tt, tt), l)
levels_good zero start (Char escaped c ∷ ms) (hm, h) = let p = piece start (Char escaped c) ms in let l = levels_good p.1 false ms h in (in_branch_good p.0 (levels p.1 false ms).0 (piece_good start (Char escaped c) ms hm) l.0, l.1)
levels_good zero start (One ∷ ms) (hm, h) = let p = piece start One ms in let l = levels_good p.1 false ms h in (in_branch_good p.0 (levels p.1 false ms).0 (piece_good start One ms hm) l.0, l.1)
levels_good zero start (Stars k ∷ ms) (hm, h) = let p = piece start (Stars k) ms in let l = levels_good p.1 false ms h in (in_branch_good p.0 (levels p.1 false ms).0 (piece_good start (Stars k) ms hm) l.0, l.1)
levels_good zero start (Class negated rs ∷ ms) (hm, h) = let p = piece start (Class negated rs) ms in let l = levels_good p.1 false ms h in (in_branch_good p.0 (levels p.1 false ms).0 (piece_good start (Class negated rs) ms hm) l.0, l.1)
levels_good zero start (Bad f ∷ ms) (hm, h) = let p = piece start (Bad f) ms in let l = levels_good p.1 false ms h in (in_branch_good p.0 (levels p.1 false ms).0 (piece_good start (Bad f) ms hm) l.0, l.1)

first_branch_good : (bs : Branches) → AllWellFormed bs → AreWellFormed (first_branch bs)
first_branch_good none h = tt
first_branch_good (branch ts bs) h = h.0

-- so the whole glob is well formed
whole_good : (ms : List Lexeme) → AreGood ms → AreWellFormed (whole ms)
unfolding whole
whole_good ms h = elim (is_whole_run ms) as (λ q. AreWellFormed (elim q [ true ↦ and_then RecursivePrefix end | false ↦ first_branch (levels zero true ms).0 ])) [
  | true ↦ (tt, tt)
  | false ↦ first_branch_good (levels zero true ms).0 (levels_good zero true ms h).0
]

-- every reading of a text of scalar values is well formed
pub reads_well : (o : Options) (text : List ℕ) (ts : Tokens) → scalars text ≡ true → reading o text ≡ Ok ts → AreWellFormed ts
unfolding reading
reads_well o text ts h e = step (nested zero (lexemes o zero text)) refl e
  where
    step : (r : Result (List Lexeme) ParseErrorKind) → nested zero (lexemes o zero text) ≡ r → whole_or_parse_error r ≡ Ok ts → AreWellFormed ts
    step (Ok ms) q e' = let g : whole ms ≡ ts = cc in subst AreWellFormed g (whole_good ms (nested_good zero (lexemes o zero text) ms (lexemes_good o zero text h) q))
    step (Err f) q e' = absurd cc
