-- The trees of flat lists of tokens.
use Rattle.std.proofs.Common.{◌≡◌, suc, ◌<◌, ◌≤◌, List, [], ◌∷◌, length, map, arith, refl, ap, sym, subst, ◌∙◌}
use Rattle.glob_syntax.specs.Token.{Token, Literal, Any, ZeroOrMore, RecursivePrefix, RecursiveSuffix, RecursiveZeroOrMore, Class, Group, Tokens, end, and_then, Branches, none, branch, before}
use Rattle.glob_syntax.specs.Reading.{Levels, in_branch, open_level, next_branch, first_branch}
use Rattle.glob_syntax.specs.FlatTokens.{Flat, simple, opening, comma, closing, all_levels, levels_of, tree_of, IsNested}
use Rattle.glob_syntax.proofs.lemmas.FlatTokens.{depth}

-- ---- each level has the branch that is being read

abbrev pub AreShaped : List Branches → Type 0
AreShaped [] = Unit {0}
AreShaped (none ∷ more) = ⊥
AreShaped (branch ts bs ∷ more) = AreShaped more

shaped_in : (t : Token) (bs : Branches) (more : List Branches) → AreShaped (bs ∷ more) → AreShaped (in_branch (t ∷ []) bs ∷ more)
shaped_in t none more h = h
shaped_in t (branch ts bs) more h = h

shaped_open : (l : Levels) → AreShaped (all_levels l) → AreShaped (all_levels (open_level l))
shaped_open (none, []) h = h
shaped_open (branch ts bs, []) h = h
shaped_open (none, outer ∷ more) h = absurd h
shaped_open (branch ts bs, outer ∷ more) h = shaped_in (Group (branch ts bs)) outer more h

shaped_next : (l : Levels) → AreShaped (all_levels l) → AreShaped (all_levels (next_branch l))
shaped_next (none, more) h = absurd h
shaped_next (branch ts bs, more) h = h

pub shaped : (ts : List Flat) → AreShaped (all_levels (levels_of ts))
shaped [] = tt
shaped (simple t ∷ ts) = shaped_in t (levels_of ts).0 (levels_of ts).1 (shaped ts)
shaped (opening ∷ ts) = shaped_open (levels_of ts) (shaped ts)
shaped (comma ∷ ts) = shaped_next (levels_of ts) (shaped ts)
shaped (closing ∷ ts) = shaped ts

-- ---- a tree with no groups comes from its tokens alone

abbrev pub IsNoGroup : Token → Type 0
IsNoGroup (Group bs) = ⊥
IsNoGroup (Literal c) = Unit {0}
IsNoGroup Any = Unit {0}
IsNoGroup ZeroOrMore = Unit {0}
IsNoGroup RecursivePrefix = Unit {0}
IsNoGroup RecursiveSuffix = Unit {0}
IsNoGroup RecursiveZeroOrMore = Unit {0}
IsNoGroup (Class negated rs) = Unit {0}

abbrev pub HasNoGroup : List Token → Type 0
HasNoGroup [] = Unit {0}
HasNoGroup (t ∷ ts) = IsNoGroup t × HasNoGroup ts

pub in_first : (t : Token) (l : Levels) → AreShaped (all_levels l) → first_branch (in_branch (t ∷ []) l.0) ≡ and_then t (first_branch l.0)
in_first t (none, more) h = absurd h
in_first t (branch ts bs, more) h = refl

pub open_first : (l : Levels) → AreShaped (all_levels l) → 0 < length l.1 → (ts : Tokens) × (first_branch (open_level l).0 ≡ and_then (Group l.0) ts)
open_first (bs, []) h some = absurd (omega arith)
open_first (none, outer ∷ more) h some = absurd h
open_first (branch ts bs, none ∷ more) h some = absurd h
open_first (branch ts bs, branch us outer ∷ more) h some = (us, refl)

pub open_here : (ts : List Flat) → IsNested (opening ∷ ts) → (us : Tokens) × (tree_of (opening ∷ ts) ≡ and_then (Group (levels_of ts).0) us)
open_here ts h = let d = depth (suc 0) ts h in open_first (levels_of ts) (shaped ts) (omega arith)

pub spelled : (ts : List Flat) (xs : List Token) → IsNested ts → HasNoGroup xs → tree_of ts ≡ before xs end → ts ≡ map simple xs
spelled [] [] h g e = refl
spelled [] (x ∷ xs) h g e = absurd cc
spelled (simple t ∷ ts) [] h g e = let f = in_first t (levels_of ts) (shaped ts) in absurd cc
spelled (simple t ∷ ts) (x ∷ xs) h g e =
    let f : tree_of (simple t ∷ ts) ≡ and_then t (tree_of ts) = in_first t (levels_of ts) (shaped ts) in
    let both : and_then t (tree_of ts) ≡ and_then x (before xs end) = sym f ∙ e in
    let first : t ≡ x = cc both in
    let rest : tree_of ts ≡ before xs end = cc both in
    (λ i. simple (first i) ∷ spelled ts xs h g.1 rest i)
spelled (opening ∷ ts) [] h g e = let (us, f) = open_here ts h in absurd cc
spelled (opening ∷ ts) (x ∷ xs) h g e =
    let (us, f) = open_here ts h in
    let both : and_then (Group (levels_of ts).0) us ≡ and_then x (before xs end) = sym f ∙ e in
    let first : x ≡ Group (levels_of ts).0 = cc both in
    absurd (subst IsNoGroup first g.0)
spelled (comma ∷ ts) xs h g e = absurd h
spelled (closing ∷ ts) xs h g e = absurd h

pub two_are_more : (ts : List Flat) → IsNested ts → 2 ≤ length ts → tree_of ts ≡ and_then RecursivePrefix end → ⊥
two_are_more ts h le e = let one = ap length (spelled ts (RecursivePrefix ∷ []) h (tt, tt) e) in omega arith
