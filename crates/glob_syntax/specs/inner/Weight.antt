-- The weight of tokens: how many states over bytes an automaton has for them.
use Rattle.std.specs.Prelude.{ℕ, ◌+◌, length, encode_utf8, if◌then◌else◌}
use Rattle.glob_syntax.specs.declared.options.Options.{Options}
use Rattle.glob_syntax.specs.Token.{Token, Literal, Any, ZeroOrMore, RecursivePrefix, RecursiveSuffix, RecursiveZeroOrMore, Class, Group, Tokens, end, and_then, Branches, none, branch}

-- Seven states of a whole character read its second, third and fourth byte, eight its first, and another leads to these.
abbrev pub any_weight : Options → ℕ
any_weight o = if o.whole_character then 16 else 1

-- A literal has a state for each of its bytes, and a group has 1 and the states of its branches.
abbrev mutual
  pub token_weight : Options → Token → ℕ
  token_weight o (Literal c) = length (encode_utf8 c)
  token_weight o Any = any_weight o
  token_weight o ZeroOrMore = 1
  token_weight o RecursivePrefix = 3
  token_weight o RecursiveSuffix = 2
  token_weight o RecursiveZeroOrMore = 4
  token_weight o (Class negated rs) = 1
  token_weight o (Group bs) = 1 + branches_weight o bs

  pub weight : Options → Tokens → ℕ
  weight o end = 0
  weight o (and_then t ts) = token_weight o t + weight o ts

  pub branches_weight : Options → Branches → ℕ
  branches_weight o none = 0
  branches_weight o (branch ts bs) = weight o ts + branches_weight o bs
