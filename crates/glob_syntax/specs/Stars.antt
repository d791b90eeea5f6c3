-- Star reading. A branch, of a group or the whole glob, is read by itself, in pieces from its first lexeme on. Each piece is as
-- long as its form allows. R is a run of exactly two stars. A run ends a branch if no lexeme of that branch follows it; a group
-- after it is such a lexeme.
--
--   at the branch's start, one or more pairs (R and an unescaped `/`)
--   and, where there is one, an R that ends the branch                        RecursivePrefix
--   outside groups, R as the whole glob                                       RecursivePrefix
--   `/`, any number of pairs, and an R that ends the branch                   RecursiveSuffix
--   otherwise, `/` and one or more pairs                                      RecursiveZeroOrMore
--   any other run of length k                                                 k times ZeroOrMore
--   any other lexeme                                                            its own token
--
-- The `/` that begins a RecursiveSuffix or a RecursiveZeroOrMore may be escaped; the `/` in a pair may not. (R as the whole glob
-- is in Reading.)
use Rattle.std.specs.Prelude.{ℕ, suc, ◌+◌, ◌-◌, List, [], ◌∷◌, Bool, true, false, ◌&&◌, not, ◌==◌, nat_lt, drop, replicate}
use Rattle.glob_syntax.specs.Token.{Token, Literal, Any, ZeroOrMore, RecursivePrefix, RecursiveSuffix, RecursiveZeroOrMore}
use Rattle.glob_syntax.specs.Token as token
use Rattle.glob_syntax.specs.Lexemes.{Lexeme, Char, One, Stars, Class, Comma, Close}

-- a run of exactly two stars
abbrev pub is_run : Lexeme → Bool
is_run (Stars n) = n == 2
is_run m = false

-- an unescaped `/`
abbrev pub is_slash : Lexeme → Bool
is_slash (Char escaped c) = not escaped && c == 47
is_slash m = false

-- a branch ends before a `,` and a `}`
abbrev pub ends_branch : Lexeme → Bool
ends_branch Comma = true
ends_branch Close = true
ends_branch m = false

-- and where no lexemes are left
abbrev pub at_end : List Lexeme → Bool
at_end [] = true
at_end (m ∷ ms) = ends_branch m

-- the first lexeme is a run of two, which ends the branch
abbrev pub last_run : List Lexeme → Bool
last_run [] = false
last_run (m ∷ ms) = is_run m && at_end ms

-- the number of lexemes at the front that are pairs of a run of two and an unescaped `/`, as many as possible
abbrev pub pairs : List Lexeme → ℕ
pairs [] = 0
pairs (m ∷ []) = 0
pairs (m ∷ n ∷ ms) = elim (is_run m && is_slash n) [ true ↦ suc (suc (pairs ms)) | false ↦ 0 ]

-- In what follows, the tokens of a piece come with the number of lexemes that belong to it after its first.

-- A piece that begins with a run of n stars. The first flag says whether it is a prefix, whose pairs have k lexemes; the
-- second, whether a run that ends the branch follows these.
abbrev pub run_cut : Bool → Bool → ℕ → ℕ → List Token × ℕ
run_cut false last n k = (replicate n ZeroOrMore, 0)
run_cut true true n k = (RecursivePrefix ∷ [], k)
run_cut true false n k = (RecursivePrefix ∷ [], k - 1)

-- A piece that begins with a `/`, followed by pairs of k lexemes. The first flag says whether a run that ends the branch
-- follows these; the second, whether there are any pairs.
abbrev pub slash_cut : Bool → Bool → ℕ → List Token × ℕ
slash_cut true some k = (RecursiveSuffix ∷ [], k + 1)
slash_cut false true k = (RecursiveZeroOrMore ∷ [], k)
slash_cut false false k = (Literal 47 ∷ [], 0)

-- the piece of a run of n stars, the first of `ms`; `start` says whether it is the first lexeme of its branch
abbrev pub run_piece : Bool → ℕ → List Lexeme → List Token × ℕ
run_piece start n ms = run_cut (start && nat_lt 0 (pairs ms)) (last_run (drop (pairs ms) ms)) n (pairs ms)

-- the piece of a `/`, followed by `ms`
abbrev pub slash_piece : List Lexeme → List Token × ℕ
slash_piece ms = slash_cut (last_run (drop (pairs ms) ms)) (nat_lt 0 (pairs ms)) (pairs ms)

-- the piece of any lexeme of a branch, followed by `ms`
unfoldable pub piece : Bool → Lexeme → List Lexeme → List Token × ℕ
piece start (Stars n) ms = run_piece start n (Stars n ∷ ms)
piece start (Char escaped c) ms = elim (c == 47) [ true ↦ slash_piece ms | false ↦ (Literal c ∷ [], 0) ]
piece start One ms = (Any ∷ [], 0)
piece start (Class negated rs) ms = (token.Class negated rs ∷ [], 0)
-- no other lexeme is inside a branch
piece start m ms = ([], 0)
