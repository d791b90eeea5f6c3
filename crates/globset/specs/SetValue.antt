-- Sets and builders as contracts see them: as lists of globs; and which scratches fit a set.
use Rattle.std.specs.Prelude.{List, length}
use Rattle.globset_glob.specs.GlobMatches.{GlobValue}
pub use Rattle.globset_glob.specs.ScratchValue.{FitsAsBefore, FitsMatcher, HasCapacity, ScratchValue, raised}
pub use Rattle.set_matcher.specs.SetValue.{SetValue, set_globs, set_states}

-- A builder is seen as the list of the globs that were added, the first first.
abbrev pub BuilderValue : Type 0
BuilderValue = List GlobValue

-- the globs of a builder, in the order of the additions
abbrev pub builder_globs : BuilderValue → List GlobValue
builder_globs b = b

-- the scratch fits the set: it has room for the states of the set's largest automaton, and for its globs
abbrev pub Fits : ScratchValue → SetValue → Type 0
Fits scratch set = HasCapacity scratch (set_states set) (length (set_globs set))
