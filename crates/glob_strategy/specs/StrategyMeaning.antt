-- The meaning of a glob's strategy for a path.
use Rattle.std.specs.Prelude.{◌≡◌, ◌↔◌, ℕ, Bool, true, false, List, ◌++◌, IsTrue}
use Rattle.std.specs.Str.{bytes_eq}
use Rattle.bit_sets.specs.Texts.{AllBytes}
use Rattle.glob_syntax.specs.TokensMatch.{tokens_match}
use Rattle.glob_syntax.specs.declared.options.Options.{Options}
use Rattle.glob_syntax.specs.Token.{Tokens}
use Rattle.glob_path.specs.Key.{KeyMatches, key_seen}
use Rattle.glob_path.specs.PathParts.{last_component, component_extension}
use Rattle.glob_strategy.specs.declared.strategy.MatchStrategy.{MatchStrategy}
use Rattle.glob_strategy.specs.declared.strategy.MatchStrategy.TheVariants as held
use Rattle.glob_strategy.specs.Excluded.{are_reported}
use Rattle.glob_strategy.specs.Below.{StrategyIsSoundBelow, HasBytes}
use Rattle.glob_strategy.specs.Direct.{is_direct, needs_automaton}
use Rattle.glob_strategy.specs.Strategies.{StrategyValue, Excluded, Key, RequiredExtension, BasenameRegex, Regex, after_prefix, before_ending, strategy_of_tokens}

-- a strategy of the program
abbrev pub strategy_seen : MatchStrategy → StrategyValue
strategy_seen held.Excluded = Excluded
strategy_seen (held.Key key) = Key (key_seen key)
strategy_seen (held.RequiredExtension extension) = RequiredExtension extension.items
strategy_seen held.BasenameRegex = BasenameRegex
strategy_seen held.Regex = Regex

-- The strategy's condition for reporting a glob with these tokens for the path.
abbrev pub StrategyIsSound : StrategyValue → Options → Tokens → List ℕ → Type 0
-- for no path
StrategyIsSound Excluded o ts path = are_reported o ts path ≡ false
-- for the paths that the key matches
StrategyIsSound (Key key) o ts path = IsTrue (are_reported o ts path) ↔ KeyMatches key path
-- only for paths whose last component has this extension; and for a path that ends with it, if the tokens before the ending match
-- the path before the extension
StrategyIsSound (RequiredExtension extension) o ts path =
    (IsTrue (are_reported o ts path) → component_extension path ≡ extension) × ((front : List ℕ) → front ++ extension ≡ path → are_reported o ts path ≡ tokens_match o (before_ending ts) front)
-- for the paths whose last component the tokens after RecursivePrefix match
StrategyIsSound BasenameRegex o ts path = are_reported o ts path ≡ tokens_match o (after_prefix ts) (last_component path)
-- for the paths that the tokens match
StrategyIsSound Regex o ts path = are_reported o ts path ≡ tokens_match o ts path

-- An automaton has to be run to decide for the path whether the glob is reported.
abbrev pub runs_automaton : StrategyValue → List ℕ → Bool
runs_automaton Excluded path = false
runs_automaton (Key key) path = false
runs_automaton (RequiredExtension extension) path = bytes_eq extension (component_extension path)
runs_automaton BasenameRegex path = true
runs_automaton Regex path = true

-- the strategy has an automaton, which is run for some path
abbrev pub has_automaton : StrategyValue → Bool
has_automaton Excluded = false
has_automaton (Key key) = false
has_automaton (RequiredExtension extension) = true
has_automaton BasenameRegex = true
has_automaton Regex = true

-- The strategy is the table's, and it is sound for a glob with these tokens, every path and every folder. It has an automaton
-- only if the glob is not direct, and runs it only where the glob needs it. Its key is bytes.
pub record IsStrategyOf (o : Options) (ts : Tokens) (strategy : MatchStrategy) : Type 0 where
  pub in_table : strategy_seen strategy ≡ strategy_of_tokens o ts
  pub tells : (path : List ℕ) → StrategyIsSound (strategy_seen strategy) o ts path
  pub automaton : (path : List ℕ) → runs_automaton (strategy_seen strategy) path ≡ true → needs_automaton o ts path ≡ true
  pub indirect : has_automaton (strategy_seen strategy) ≡ true → is_direct o ts ≡ false
  pub bytes : HasBytes (strategy_seen strategy)
  pub below : (folder : List ℕ) → AllBytes folder → StrategyIsSoundBelow (strategy_seen strategy) o ts folder
