-- How a matcher decides: the key or the automaton of a glob.
use Rattle.std.specs.Prelude.{◌≡◌, ◌≤◌, ℕ, [], ◌∷◌, ⊤}
use Rattle.std.specs.Arc.{arc_value}
use Rattle.byte_nfa.specs.Steps.{NfaValue}
use Rattle.byte_nfa.specs.Runs.{size, max_reads}
use Rattle.engine.specs.Memory.{Fits, MemoryValue}
use Rattle.glob_strategy.specs.IndexedTokens.{indexed, IsFor}
use Rattle.glob_strategy.specs.inner.DecidedByKey.{IsDecidedBy}
use Rattle.glob_path.specs.Key.{key_seen}
use Rattle.glob_text.specs.GlobMatches.{GlobValue, tokens_of_glob}
use Rattle.glob_text.specs.Cost.{cost}
use Rattle.globset_glob.specs.declared.matcher.Strategy.{Strategy}
use Rattle.globset_glob.specs.declared.matcher.Strategy.TheVariants.{Key, Automaton}

-- An automaton is for the tokens of the glob, under the index 0. At each position of a path it has at most as many reads
-- as the glob may have visits.
pub record IsAutomatonOf (g : GlobValue) (m : NfaValue) : Type 0 where
  pub tokens : IsFor m (indexed g.options (tokens_of_glob g) 0 ∷ [])
  pub reads : max_reads m ≤ cost g

-- A key decides which paths the glob matches. An automaton belongs to the glob.
abbrev pub IsStrategyOfMatcher : GlobValue → Strategy → Type 0
IsStrategyOfMatcher g (Key key) = IsDecidedBy g.options (tokens_of_glob g) (key_seen key)
IsStrategyOfMatcher g (Automaton m) = IsAutomatonOf g (arc_value m)

-- the states of the automaton; a key has none
abbrev pub form_states : Strategy → ℕ
form_states (Key key) = 0
form_states (Automaton m) = size (arc_value m)

-- the memory fits the automaton by its first slot; a key needs none
abbrev pub FitsStrategy : MemoryValue → Strategy → Type 0
FitsStrategy memory (Key key) = ⊤
FitsStrategy memory (Automaton m) = Fits memory 0 (arc_value m)
