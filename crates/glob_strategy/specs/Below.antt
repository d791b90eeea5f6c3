-- The meaning of a glob's strategy for the paths below a folder.
use Rattle.std.specs.Prelude.{◌↔◌, ℕ, List, [], IsTrue}
use Rattle.bit_sets.specs.Texts.{AllBytes}
use Rattle.glob_syntax.specs.After.{MeanAfter}
use Rattle.glob_path.specs.Below.{path_below, folder_start}
use Rattle.glob_path.specs.Key.{KeyMayMatchBelow, key_bytes}
use Rattle.glob_syntax.specs.declared.options.Options.{Options}
use Rattle.glob_syntax.specs.Token.{Tokens}
use Rattle.glob_strategy.specs.Strategies.{StrategyValue, Excluded, Key, RequiredExtension, BasenameRegex, Regex, after_prefix, before_ending}
use Rattle.glob_strategy.specs.Excluded.{are_reported}

-- the glob is reported for some path below the folder
abbrev pub AreReportedBelow : Options → Tokens → List ℕ → Type 0
AreReportedBelow o ts folder = (rest : List ℕ) × AllBytes rest × IsTrue (are_reported o ts (path_below folder rest))

-- The strategy's condition for reporting a glob with these tokens for some path below the folder.
abbrev pub StrategyIsSoundBelow : StrategyValue → Options → Tokens → List ℕ → Type 0
-- for no folder
StrategyIsSoundBelow Excluded o ts folder = AreReportedBelow o ts folder → ⊥
-- for the folders below which some path may match the key
StrategyIsSoundBelow (Key key) o ts folder = AreReportedBelow o ts folder ↔ KeyMayMatchBelow key folder
-- for the folders below which the tokens before the ending match something
StrategyIsSoundBelow (RequiredExtension extension) o ts folder = AreReportedBelow o ts folder ↔ MeanAfter o (before_ending ts) (folder_start folder)
-- for every folder, if the tokens after RecursivePrefix match anything
StrategyIsSoundBelow BasenameRegex o ts folder = AreReportedBelow o ts folder ↔ MeanAfter o (after_prefix ts) []
-- for the folders below which the tokens match something
StrategyIsSoundBelow Regex o ts folder = AreReportedBelow o ts folder ↔ MeanAfter o ts (folder_start folder)

-- the key or the extension of the strategy, if any, is bytes
abbrev pub HasBytes : StrategyValue → Type 0
HasBytes Excluded = Unit {0}
HasBytes (Key key) = AllBytes (key_bytes key)
HasBytes (RequiredExtension extension) = AllBytes extension
HasBytes BasenameRegex = Unit {0}
HasBytes Regex = Unit {0}
