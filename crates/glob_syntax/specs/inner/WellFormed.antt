-- What holds of every reading: characters are Unicode scalar values, and a class has a range.
use Rattle.std.specs.Prelude.{◌≤◌, ℕ, List, [], ◌∷◌, length}
use Rattle.std.specs.Char.{IsScalar}
use Rattle.glob_syntax.specs.Token.{Token, Literal, Any, ZeroOrMore, RecursivePrefix, RecursiveSuffix, RecursiveZeroOrMore, Class, Group, Tokens, end, and_then, Branches, none, branch}

-- a class's ends are scalar values
abbrev pub AreScalars : List (ℕ × ℕ) → Type 0
AreScalars [] = Unit {0}
AreScalars ((x, y) ∷ rs) = IsScalar x × IsScalar y × AreScalars rs

-- the characters of a token, and of all tokens inside it, are scalar values, and its classes have ranges
abbrev mutual
  pub IsWellFormed : Token → Type 0
  IsWellFormed (Literal c) = IsScalar c
  IsWellFormed Any = Unit {0}
  IsWellFormed ZeroOrMore = Unit {0}
  IsWellFormed RecursivePrefix = Unit {0}
  IsWellFormed RecursiveSuffix = Unit {0}
  IsWellFormed RecursiveZeroOrMore = Unit {0}
  IsWellFormed (Class negated rs) = AreScalars rs × (1 ≤ length rs)
  IsWellFormed (Group bs) = AllWellFormed bs

  pub AreWellFormed : Tokens → Type 0
  AreWellFormed end = Unit {0}
  AreWellFormed (and_then t ts) = IsWellFormed t × AreWellFormed ts

  pub AllWellFormed : Branches → Type 0
  AllWellFormed none = Unit {0}
  AllWellFormed (branch ts bs) = AreWellFormed ts × AllWellFormed bs
