-- Set matchers and their builders as contracts see them.
use Rattle.std.specs.Prelude.{ℕ, List}
use Rattle.glob_text.specs.GlobMatches.{GlobValue}
use Rattle.set_matcher.specs.SetValue.{SetValue}
use Rattle.set_matcher.specs.inner.Automata.{AutomataParts, max_states}

-- the set, and its automata, so that it can be said which of them a cache is of
pub record SetMatcherValue : Type 0 where
  pub set : SetValue
  pub automata : AutomataParts

-- the globs of the set
abbrev pub matcher_globs : SetMatcherValue → List GlobValue
matcher_globs v = v.set.globs

-- the value of globs and their automata
abbrev pub set_matcher_value : List GlobValue → AutomataParts → SetMatcherValue
set_matcher_value globs a = record {
  set = record { globs = globs; states = max_states a };
  automata = a;
}

-- a set while it is made: the globs that were added so far, and their final number
pub record AddedGlobs : Type 0 where
  pub given : List GlobValue
  pub count : ℕ
