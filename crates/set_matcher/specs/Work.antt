-- How many visits a set may make.
use Rattle.std.specs.Prelude.{ℕ, List, cond, length, sum_by}
use Rattle.glob_strategy.specs.Direct.{is_direct, needs_automaton}
use Rattle.set_matcher.specs.Visits.{visits_below_for, visits_for}
use Rattle.glob_text.specs.GlobMatches.{GlobValue, tokens_of_glob}
use Rattle.glob_text.specs.Cost.{cost}

-- The sum of `cost` over the globs that need an automaton for the path: those that are not direct and require no extension
-- that the path lacks.
abbrev pub load : List GlobValue → List ℕ → ℕ
load globs path = sum_by (λ g. cond (needs_automaton g.options (tokens_of_glob g) path) (cost g) 0) globs

-- The most visits for a path. What `visits_for` takes as the load is a bound on the states of the globs that need an
-- automaton: each has at most `cost`.
abbrev pub max_set_visits : List GlobValue → List ℕ → ℕ
max_set_visits globs path = visits_for (length path) (load globs path)

-- The sum of `cost` over the globs that are not direct. For a folder there are no others to leave out: a path below it may have
-- any extension.
abbrev pub load_below : List GlobValue → ℕ
load_below globs = sum_by (λ g. cond (is_direct g.options (tokens_of_glob g)) 0 (cost g)) globs

-- the most visits for a folder
abbrev pub max_set_visits_below : List GlobValue → List ℕ → ℕ
max_set_visits_below globs folder = visits_below_for (length folder) (load_below globs)
