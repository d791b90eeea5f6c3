-- The value of a set, by its compiled globs. No contract cites this.
use Rattle.std.specs.Prelude.{◌≡◌, ◌≢◌, ◌≤◌, ℕ, [], Option, None, Some, IfSome, length, ⊤}
use Rattle.std.specs.Arc.{arc_value}
use Rattle.std.specs.declared.sync.Arc.{Arc}
use Rattle.set_matcher.specs.SetValue.{SetValue, set_globs, set_states}
use Rattle.set_matcher.specs.SetMatcherValue.{SetMatcherValue}
use Rattle.engine.specs.Memory.{MemoryValue}
use Rattle.set_matcher.specs.inner.Memory.{FitsAll}

-- no globs and no states where there is no matcher, as in `GlobSet::empty`, and otherwise the set of the matcher
abbrev pub set_of : {Z : Type 0} → Option (Arc SetMatcherValue Z) → SetValue
set_of None = record { globs = []; states = 0 }
set_of (Some matcher) = (arc_value matcher).set

-- a matcher has globs: a set that has none has no matcher
abbrev pub HasGlobs : {Z : Type 0} → Option (Arc SetMatcherValue Z) → Type 0
HasGlobs None = ⊤
HasGlobs (Some matcher) = set_globs (arc_value matcher).set ≢ []

-- The memory, the marks and the capacity are enough for each path. The matcher is the set's, and the memory fits its automata.
pub record IsSearcherOf {Z : Type 0} (set : SetValue) (matcher : Option (Arc SetMatcherValue Z)) (memory : MemoryValue) (marks capacity : ℕ) : Type 0 where
  pub same : set_of matcher ≡ set
  pub has : HasGlobs matcher
  pub fits : IfSome matcher (λ m. FitsAll (arc_value m).automata memory)
  pub states : set_states set ≤ memory.room
  pub enough : length (set_globs set) ≤ marks
  pub room : length (set_globs set) ≤ capacity
