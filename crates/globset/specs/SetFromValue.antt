-- Sets from JSON values: the globs that a value stands for, or the error.
use Rattle.std.specs.Prelude.{ℕ, ◌+◌, List, [], ◌∷◌, Result, Ok, Err}
use Rattle.serde_json.specs.Data.{Data, null, boolean, number, string, array, object, Items, no_items, item}
use Rattle.globset_glob.specs.GlobMatches.{GlobValue}
use Rattle.globset_glob.specs.ValueErrors.{ValueErrorValue, not_array, at_index}
use Rattle.globset_glob.specs.Values.{glob_of_value}

-- a glob and the globs after it, or the error of what comes after it
abbrev pub ahead_of : GlobValue → Result (List GlobValue) ValueErrorValue → Result (List GlobValue) ValueErrorValue
ahead_of g (Ok globs) = Ok (g ∷ globs)
ahead_of g (Err e) = Err e

-- The globs of the elements of an array, in order, or the error of the first element that is not a glob, with its
-- index. The number is the index of the first of these elements.
abbrev pub globs_from : ℕ → Items → Result (List GlobValue) ValueErrorValue
globs_from i no_items = Ok []
globs_from i (item value values) = elim (glob_of_value value) [ Ok g ↦ ahead_of g (globs_from (i + 1) values) | Err e ↦ Err (at_index i e) ]

-- The globs of a value: of an array, the globs of its elements. Any other value is an error without an index.
abbrev pub globs_of_value : Data → Result (List GlobValue) ValueErrorValue
globs_of_value (array values) = globs_from 0 values
globs_of_value null = Err not_array
globs_of_value (boolean b) = Err not_array
globs_of_value (number n) = Err not_array
globs_of_value (string text) = Err not_array
globs_of_value (object entries) = Err not_array
