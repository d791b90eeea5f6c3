-- Tokens that match some path with a beginning.
use Rattle.std.specs.Prelude.{ℕ, List, ◌++◌, IsTrue}
use Rattle.bit_sets.specs.Texts.{AllBytes}
use Rattle.glob_syntax.specs.TokensMatch.{tokens_match}
use Rattle.glob_syntax.specs.declared.options.Options.{Options}
use Rattle.glob_syntax.specs.Token.{Tokens}

-- the tokens match some path that begins with y, and has bytes alone after it
abbrev pub MeanAfter : Options → Tokens → List ℕ → Type 0
MeanAfter o ts y = (rest : List ℕ) × AllBytes rest × IsTrue (tokens_match o ts (y ++ rest))
