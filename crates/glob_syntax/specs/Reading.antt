-- Reading: a glob's text has tokens under its options, or it has an error, the first from left to right.
use Rattle.std.specs.Prelude.{◌≡◌, ℕ, zero, suc, List, [], ◌∷◌, Bool, true, false, Result, Ok, Err}
use Rattle.glob_syntax.specs.declared.options.Options.{Options}
use Rattle.glob_syntax.specs.declared.parse_error_kind.ParseErrorKind.{ParseErrorKind}
use Rattle.glob_syntax.specs.Token.{Token, Tokens, Branches, end, and_then, none, branch, Group, RecursivePrefix, before}
use Rattle.glob_syntax.specs.Lexemes.{Lexeme, Open, Comma, Close, lexemes}
use Rattle.glob_syntax.specs.Nesting.{nested}
use Rattle.glob_syntax.specs.Stars.{is_run, piece}

-- ---- branches

-- The reading of some last lexemes of a glob. They may begin inside groups. The first part has the branches of the innermost open
-- group, from the branch in which the lexemes begin. The list has the branches of each group around it, from the inside out. The
-- whole glob counts as the only branch of an outermost group.
abbrev pub Levels : Type 0
Levels = Branches × List Branches

-- tokens, and then the first of these branches; where the braces of the lexemes match, there is a first
abbrev pub in_branch : List Token → Branches → Branches
in_branch front none = none
in_branch front (branch ts bs) = branch (before front ts) bs

-- tokens, and then these levels: the tokens are at the front of the branch that is being read
abbrev pub in_level : List Token → Levels → Levels
in_level front levels = (in_branch front levels.0, levels.1)

-- A `{`, and then these levels: the innermost level is a whole group, which is a token of the branch around it. Where the braces
-- of the lexemes match, there is such a branch.
abbrev pub open_level : Levels → Levels
open_level (bs, []) = (bs, [])
open_level (bs, outer ∷ more) = (in_branch (Group bs ∷ []) outer, more)

-- a `,`, and then these levels: another branch
abbrev pub next_branch : Levels → Levels
next_branch (bs, more) = (branch end bs, more)

-- a `}`, and then these levels: a group ends, and its last branch has no more tokens
abbrev pub close_level : Levels → Levels
close_level (bs, more) = (branch end none, bs ∷ more)

-- The levels of lexemes, where the first n belong to the piece before them; `start` says whether a branch starts here.
unfoldable pub levels : ℕ → Bool → List Lexeme → Levels
levels n start [] = (branch end none, [])
levels (suc n) start (m ∷ ms) = levels n start ms
levels zero start (Open ∷ ms) = open_level (levels zero true ms)
levels zero start (Comma ∷ ms) = next_branch (levels zero true ms)
levels zero start (Close ∷ ms) = close_level (levels zero false ms)
levels zero start (m ∷ ms) = let p = piece start m ms in in_level p.0 (levels p.1 false ms)

-- the whole glob's branch
abbrev pub first_branch : Branches → Tokens
first_branch none = end
first_branch (branch ts bs) = ts

-- `**` is the whole glob
abbrev pub is_whole_run : List Lexeme → Bool
is_whole_run (m ∷ []) = is_run m
is_whole_run ms = false

-- the tokens of a glob's lexemes
unfoldable pub whole : List Lexeme → Tokens
whole ms = elim (is_whole_run ms) [ true ↦ and_then RecursivePrefix end | false ↦ first_branch (levels zero true ms).0 ]

-- ---- reading

-- the tokens of lexemes that have no error
abbrev pub whole_or_parse_error : Result (List Lexeme) ParseErrorKind → Result Tokens ParseErrorKind
whole_or_parse_error (Ok ms) = Ok (whole ms)
whole_or_parse_error (Err f) = Err f

-- The tokens of a text, or its first error from left to right. This is a function, so a text has either tokens or an error, and
-- never two of either.
unfoldable pub reading : Options → List ℕ → Result Tokens ParseErrorKind
reading o text = whole_or_parse_error (nested zero (lexemes o zero text))

-- this is the first error of the text
abbrev pub HasParseError : Options → List ℕ → ParseErrorKind → Type 0
HasParseError o text f = reading o text ≡ Err f
