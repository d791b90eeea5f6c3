-- Excluded globs: those that a set leaves out.
use Rattle.std.specs.Prelude.{ℕ, Bool, ◌&&◌, not, List}
use Rattle.glob_text.specs.GlobMatches.{GlobValue, tokens_of_glob, glob_matches}
use Rattle.glob_strategy.specs.Excluded.{are_excluded}

-- The glob is excluded: no set returns its index, for any path. This depends on the glob's tokens and on `case_insensitive`, and
-- not on how the text is spelled. A matcher of a single glob ignores it.
unfoldable pub excluded : GlobValue → Bool
excluded g = are_excluded g.options (tokens_of_glob g)

-- The glob is not excluded and matches the path. Only then does a set return its index.
abbrev pub is_reported : GlobValue → List ℕ → Bool
is_reported g path = not (excluded g) && glob_matches g path
