-- Flat lists of tokens: one after another, and how deep they are.
use Rattle.std.proofs.Common.{◌≡◌, ℕ, zero, suc, ◌+◌, ◌<◌, List, [], ◌∷◌, ◌++◌, length, drop, arith, refl, ap, sym, ◌∙◌}
use Rattle.std.proofs.lemmas.List.{map-append}
use Rattle.glob_syntax.specs.Token as tree
use Rattle.glob_syntax.specs.Token.{Group, Branches, none, branch}
use Rattle.glob_syntax.specs.Reading.{Levels, in_branch, open_level, next_branch}
use Rattle.glob_syntax.specs.FlatTokens.{Flat, simple, opening, comma, closing, level, onto, levels_of, Nests, IsNested, later_branches}
use Rattle.glob_syntax.specs.Views.{flat_of, flats}
use Rattle.glob_syntax.specs.declared.token.Token.{Token}

-- ---- tokens after tokens

pub onto_append : (ts us : List Flat) (l : Levels) → onto (ts ++ us) l ≡ onto ts (onto us l)
onto_append [] us l = refl
onto_append (t ∷ ts) us l = ap (level t) (onto_append ts us l)

-- one more token, before levels that are to come: what a reader of a text keeps
pub onto_push : (ts : List Flat) (t : Flat) (l : Levels) → onto (ts ++ t ∷ []) l ≡ onto ts (level t l)
onto_push ts t l = onto_append ts (t ∷ []) l

pub flats_push : (ts : List Token) (t : Token) → flats (ts ++ t ∷ []) ≡ flats ts ++ flat_of t ∷ []
flats_push ts t = map-append flat_of ts (t ∷ [])

-- ---- groups that are open

pub nests_append : (ts us : List Flat) (n m k : ℕ) → Nests n ts m → Nests m us k → Nests n (ts ++ us) k
nests_append [] us n m k h g = rw h g
nests_append (simple p ∷ ts) us n m k h g = nests_append ts us n m k h g
nests_append (opening ∷ ts) us n m k h g = nests_append ts us (suc n) m k h g
nests_append (comma ∷ ts) us zero m k h g = absurd h
nests_append (comma ∷ ts) us (suc n) m k h g = nests_append ts us (suc n) m k h g
nests_append (closing ∷ ts) us zero m k h g = absurd h
nests_append (closing ∷ ts) us (suc n) m k h g = nests_append ts us n m k h g

pub nests_open : (ts : List Flat) (n m : ℕ) → Nests n ts m → Nests n (ts ++ opening ∷ []) (suc m)
nests_open ts n m h = nests_append ts (opening ∷ []) n m (suc m) h refl

pub nests_comma : (ts : List Flat) (n m : ℕ) → Nests n ts (suc m) → Nests n (ts ++ comma ∷ []) (suc m)
nests_comma ts n m h = nests_append ts (comma ∷ []) n (suc m) (suc m) h refl

pub nests_close : (ts : List Flat) (n m : ℕ) → Nests n ts (suc m) → Nests n (ts ++ closing ∷ []) m
nests_close ts n m h = nests_append ts (closing ∷ []) n (suc m) m h refl

nests_tail : (t : Flat) (ts : List Flat) (n m : ℕ) → Nests n (t ∷ ts) m → (k : ℕ) × Nests k ts m
nests_tail (simple p) ts n m h = (n, h)
nests_tail opening ts n m h = (suc n, h)
nests_tail comma ts zero m h = absurd h
nests_tail comma ts (suc n) m h = (suc n, h)
nests_tail closing ts zero m h = absurd h
nests_tail closing ts (suc n) m h = (n, h)

-- the last tokens of some that nest, after the groups that are open there
pub nests_drop : (i : ℕ) (ts : List Token) (n m : ℕ) → Nests n (flats ts) m → (k : ℕ) × Nests k (flats (drop i ts)) m
nests_drop zero ts n m h = (n, h)
nests_drop (suc i) [] n m h = (n, h)
nests_drop (suc i) (t ∷ ts) n m h = let (k, g) = nests_tail (flat_of t) (flats ts) n m h in nests_drop i ts k m g

-- as many levels lie around the innermost as groups are open
open_depth : (l : Levels) (n : ℕ) → length l.1 ≡ suc n → length (open_level l).1 ≡ n
open_depth (bs, []) n h = absurd (omega arith)
open_depth (bs, outer ∷ more) n h = omega arith

pub depth : (n : ℕ) (ts : List Flat) → Nests n ts 0 → length (levels_of ts).1 ≡ n
depth n [] h = sym h
depth n (simple p ∷ ts) h = depth n ts h
depth n (opening ∷ ts) h = open_depth (levels_of ts) n (depth (suc n) ts h)
depth zero (comma ∷ ts) h = absurd h
depth (suc n) (comma ∷ ts) h = depth (suc n) ts h
depth zero (closing ∷ ts) h = absurd h
depth (suc n) (closing ∷ ts) h = let e = depth n ts h in omega arith

-- the last tokens from the j-th on
pub levels_more : (ts : List Token) (j : ℕ) (t : Token) → drop j ts ≡ t ∷ drop (j + 1) ts → levels_of (flats (drop j ts)) ≡ level (flat_of t) (levels_of (flats (drop (j + 1) ts)))
levels_more ts j t e = ap (λ us. levels_of (flats us)) e

-- where tokens that nest have a `{`, a group is open after it
pub open_around : (ts : List Token) (j : ℕ) (t : Token) → IsNested (flats ts) → drop j ts ≡ t ∷ drop (j + 1) ts → flat_of t ≡ opening
    → 0 < length (levels_of (flats (drop (j + 1) ts))).1
open_around ts j t nested e is =
    let (k, h) = nests_drop j ts 0 0 nested in
    let at : flats (drop j ts) ≡ opening ∷ flats (drop (j + 1) ts) = ap flats e ∙ ap (λ x. x ∷ flats (drop (j + 1) ts)) is in
    let h' : Nests (suc k) (flats (drop (j + 1) ts)) 0 = rw at at h in
    let d = depth (suc k) (flats (drop (j + 1) ts)) h' in omega arith

-- ---- a list that nests is one branch

-- the outermost of some levels has one branch
abbrev pub IsSole : Branches → List Branches → Type 0
IsSole bs [] = later_branches bs ≡ none
IsSole bs (outer ∷ more) = IsSole outer more

sole_in : (p : tree.Token) (bs : Branches) (more : List Branches) → IsSole bs more → IsSole (in_branch (p ∷ []) bs) more
sole_in p none [] h = h
sole_in p (branch ts bs) [] h = h
sole_in p bs (outer ∷ more) h = h

sole_open : (l : Levels) → IsSole l.0 l.1 → IsSole (open_level l).0 (open_level l).1
sole_open (bs, []) h = h
sole_open (bs, outer ∷ more) h = sole_in (Group bs) outer more h

sole_next : (l : Levels) (n : ℕ) → length l.1 ≡ suc n → IsSole l.0 l.1 → IsSole (next_branch l).0 (next_branch l).1
sole_next (bs, []) n e h = absurd (omega arith)
sole_next (bs, outer ∷ more) n e h = h

pub sole : (n : ℕ) (ts : List Flat) → Nests n ts 0 → IsSole (levels_of ts).0 (levels_of ts).1
sole n [] h = refl
sole n (simple p ∷ ts) h = sole_in p (levels_of ts).0 (levels_of ts).1 (sole n ts h)
sole n (opening ∷ ts) h = sole_open (levels_of ts) (sole (suc n) ts h)
sole zero (comma ∷ ts) h = absurd h
sole (suc n) (comma ∷ ts) h = sole_next (levels_of ts) n (depth (suc n) ts h) (sole (suc n) ts h)
sole zero (closing ∷ ts) h = absurd h
sole (suc n) (closing ∷ ts) h = sole n ts h
