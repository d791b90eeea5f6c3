-- Tokens and results of reading as contracts see them.
use Rattle.std.specs.Prelude.{◌≡◌, List, map, Result, Ok, Err}
use Rattle.glob_syntax.specs.declared.parse_error_kind.ParseErrorKind.{ParseErrorKind}
use Rattle.glob_syntax.specs.declared.parse_error_kind.ReadError.{ReadError}
use Rattle.glob_syntax.specs.declared.parse_error_kind.ReadError.TheVariants as errors
use Rattle.glob_syntax.specs.declared.token.Token.{Token}
use Rattle.glob_syntax.specs.declared.token.Token.TheVariants as held
use Rattle.glob_syntax.specs.Token as tree
use Rattle.glob_syntax.specs.FlatTokens.{Flat, simple, opening, comma, closing, tree_of}

-- ---- tokens

-- a token of the program: a simple token of the definitions, or `{`, `,` or `}`
abbrev pub flat_of : Token → Flat
flat_of (held.Literal c) = simple (tree.Literal c)
flat_of held.Any = simple tree.Any
flat_of held.ZeroOrMore = simple tree.ZeroOrMore
flat_of held.RecursivePrefix = simple tree.RecursivePrefix
flat_of held.RecursiveSuffix = simple tree.RecursiveSuffix
flat_of held.RecursiveZeroOrMore = simple tree.RecursiveZeroOrMore
flat_of (held.Class class) = simple (tree.Class class.negated class.ranges)
flat_of held.Open = opening
flat_of held.Comma = comma
flat_of held.Close = closing

-- tokens, in the order of the text
abbrev pub flats : List Token → List Flat
flats ts = map flat_of ts

-- the tree of the tokens of a glob
abbrev pub tokens_of : List Token → tree.Tokens
tokens_of ts = tree_of (flats ts)

-- ---- results

-- a returned error is the reading's, unless memory ran out
abbrev pub ErrorAgrees : {Y : Type 0} → ReadError → Result Y ParseErrorKind → Type 0
ErrorAgrees errors.Memory read = Unit {0}
ErrorAgrees (errors.Syntax f) read = read ≡ Err f

-- a returned value, seen by `view`, or a returned error is the reading's, unless memory ran out
abbrev pub AgreesWith : {X Y : Type 0} → (X → Y) → Result X ReadError → Result Y ParseErrorKind → Type 0
AgreesWith view (Ok x) read = read ≡ Ok (view x)
AgreesWith view (Err e) read = ErrorAgrees e read
