-- Globs by their tokens, and which of a list are reported for a path, or for some path below a folder.
use Rattle.std.specs.Prelude.{◌≢◌, ℕ, ◌+◌, Bool, List, [], cond, map, sum_by}
use Rattle.bit_sets.specs.Texts.{AllBytes}
use Rattle.glob_path.specs.Below.{path_below}
use Rattle.glob_syntax.specs.declared.options.Options.{Options}
use Rattle.glob_syntax.specs.Token.{Tokens}
use Rattle.glob_text.specs.GlobMatches.{GlobValue, tokens_of_glob}
use Rattle.glob_syntax.specs.inner.Weight.{weight}
use Rattle.glob_strategy.specs.Excluded.{are_reported}
use Rattle.glob_strategy.specs.Direct.{is_direct, needs_automaton}
use Rattle.set_matcher.specs.Indexes.{passes_at, passing_indexes}

-- a glob: its tokens, and the options that they are matched under
pub record TokenGlob : Type 0 where
  pub options : Options
  pub tokens : Tokens

-- these two as a value
abbrev pub token_glob : Options → Tokens → TokenGlob
token_glob o ts = record { options = o; tokens = ts }

-- the glob by its tokens
abbrev pub by_tokens : GlobValue → TokenGlob
by_tokens g = token_glob g.options (tokens_of_glob g)

-- each of them
abbrev pub token_globs : List GlobValue → List TokenGlob
token_globs globs = map by_tokens globs

-- the glob is not excluded and matches the path
abbrev pub is_reported : TokenGlob → List ℕ → Bool
is_reported g path = are_reported g.options g.tokens path

-- the list has a glob at this index, and it is reported
abbrev pub is_reported_at : List TokenGlob → List ℕ → ℕ → Bool
is_reported_at globs path i = passes_at (λ g. is_reported g path) globs i

-- the indexes of the globs that are reported
abbrev pub reported_indexes : List TokenGlob → List ℕ → List ℕ
reported_indexes globs path = passing_indexes (λ g. is_reported g path) globs

-- the most reads for the glob at a position of the path: its states, and three entries of a filter
abbrev pub reads : TokenGlob → List ℕ → ℕ
reads g path = cond (needs_automaton g.options g.tokens path) (weight g.options g.tokens + 4) 0

-- the same of all globs of a list
abbrev pub load : List TokenGlob → List ℕ → ℕ
load globs path = sum_by (λ g. reads g path) globs

-- ---- below a folder

-- some glob of the list is reported for some path below the folder: the folder, a `/`, and any bytes, perhaps none
abbrev pub SomeReportedBelow : List TokenGlob → List ℕ → Type 0
SomeReportedBelow globs folder = (rest : List ℕ) × AllBytes rest × (reported_indexes globs (path_below folder rest) ≢ [])

-- The most reads for the glob at a position of a folder: its states, and three entries of a filter. A direct glob has none.
-- Others are not told apart by the endings that they require, since a path below the folder may have any.
abbrev pub reads_below : TokenGlob → ℕ
reads_below g = cond (is_direct g.options g.tokens) 0 (weight g.options g.tokens + 4)

-- the same of all globs of a list
abbrev pub load_below : List TokenGlob → ℕ
load_below globs = sum_by (λ g. reads_below g) globs
