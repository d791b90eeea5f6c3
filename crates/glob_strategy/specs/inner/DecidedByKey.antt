-- The meaning of a key for a glob that it decides.
use Rattle.std.specs.Prelude.{◌↔◌, ℕ, List, IsTrue}
use Rattle.glob_syntax.specs.After.{MeanAfter}
use Rattle.glob_syntax.specs.TokensMatch.{tokens_match}
use Rattle.glob_path.specs.Below.{folder_start}
use Rattle.glob_path.specs.Key.{KeyValue, KeyMatches, KeyMayMatchBelow}
use Rattle.glob_syntax.specs.declared.options.Options.{Options}
use Rattle.glob_syntax.specs.Token.{Tokens}

-- A glob with these tokens matches the paths that the key matches, and some path below exactly the folders below which the key
-- may match.
pub record IsDecidedBy (o : Options) (ts : Tokens) (key : KeyValue) : Type 0 where
  pub matches : (path : List ℕ) → IsTrue (tokens_match o ts path) ↔ KeyMatches key path
  pub below : (folder : List ℕ) → MeanAfter o ts (folder_start folder) ↔ KeyMayMatchBelow key folder
