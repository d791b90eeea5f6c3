-- Lists of tokens, at the values that the program holds.
use Rattle.std.proofs.Common.{◌≡◌, ◌≤◌, Bool, true, false, List, length, refl, ap, arith}
use Rattle.std.proofs.lemmas.List.{length-map}
use Rattle.glob_syntax.specs.declared.token.Token as held
use Rattle.glob_syntax.specs.declared.token.Token.TheVariants as variants
use Rattle.glob_syntax.specs.Blank.{is_blank_token}
use Rattle.glob_syntax.specs.Token.{Token, Literal, Any, ZeroOrMore, RecursivePrefix, RecursiveSuffix, RecursiveZeroOrMore, Class, Group, Tokens, end, and_then}
use Rattle.glob_syntax.specs.FlatTokens.{Flat, simple, opening, comma, closing, IsNested}
use Rattle.glob_syntax.specs.Views.{flat_of, flats, tokens_of}
use Rattle.glob_syntax.proofs.lemmas.FlatTrees.{two_are_more}
use Rattle.glob_syntax.specs.TokensMatch.{is_prefix, is_prefix_alone}

pub prefix_is : (t : Token) → is_prefix t ≡ true → t ≡ RecursivePrefix
prefix_is RecursivePrefix e = refl
prefix_is (Literal c) e = absurd cc
prefix_is Any e = absurd cc
prefix_is ZeroOrMore e = absurd cc
prefix_is RecursiveSuffix e = absurd cc
prefix_is RecursiveZeroOrMore e = absurd cc
prefix_is (Class negated rs) e = absurd cc
prefix_is (Group bs) e = absurd cc

pub alone_is : (ts : Tokens) → is_prefix_alone ts ≡ true → ts ≡ and_then RecursivePrefix end
alone_is end e = absurd cc
alone_is (and_then t end) e = ap (λ (u : Token). and_then u end) (prefix_is t e)
alone_is (and_then t (and_then u ts)) e = absurd cc

-- two tokens or more are not RecursivePrefix alone
pub more_than_one : (ts : List held.Token) → IsNested (flats ts) → 2 ≤ length ts → false ≡ is_prefix_alone (tokens_of ts)
more_than_one ts nested some = by_case (is_prefix_alone (tokens_of ts)) refl
  where
    by_case : (b : Bool) → is_prefix_alone (tokens_of ts) ≡ b → false ≡ b
    by_case true e =
        let len = length-map ts flat_of in
        absurd (two_are_more (flats ts) nested (omega arith) (alone_is (tokens_of ts) e))
    by_case false e = refl

-- ---- tokens that are no group are not blank

abbrev pub IsNotBlank : Flat → Type 0
IsNotBlank (simple t) = is_blank_token t ≡ false
IsNotBlank opening = Unit {0}
IsNotBlank comma = Unit {0}
IsNotBlank closing = Unit {0}

pub not_blank : (t : held.Token) → IsNotBlank (flat_of t)
not_blank (variants.Literal c) = refl
not_blank variants.Any = refl
not_blank variants.ZeroOrMore = refl
not_blank variants.RecursivePrefix = refl
not_blank variants.RecursiveSuffix = refl
not_blank variants.RecursiveZeroOrMore = refl
not_blank (variants.Class class) = refl
not_blank variants.Open = tt
not_blank variants.Comma = tt
not_blank variants.Close = tt
