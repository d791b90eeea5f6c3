-- The list that a chain of snapshots stands for.
use Rattle.std.specs.Prelude.{List, [], ◌∷◌, ◌++◌, string_bytes}
use Rattle.glob_text.specs.GlobMatches.{GlobValue, glob_value}
use Rattle.glob_text.specs.declared.given.Given.{Given, Nothing, After', As'}

abbrev pub globs_given : Given → List GlobValue
globs_given Nothing = []
globs_given (After' _ before text options) = globs_given before ++ glob_value (string_bytes text.value) options ∷ []
globs_given (As' _ _ same) = globs_given same
