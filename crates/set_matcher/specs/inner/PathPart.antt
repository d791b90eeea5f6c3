-- The parts of a path that automata are run on.
use Rattle.std.specs.Prelude.{ℕ, List}
use Rattle.glob_path.specs.PathParts.{last_component}
use Rattle.set_matcher.specs.declared.path_part.Part.{Part}
use Rattle.set_matcher.specs.declared.path_part.Part.TheVariants.{Path, LastComponent}

-- the part of the path
abbrev pub part_of : Part → List ℕ → List ℕ
part_of Path path = path
part_of LastComponent path = last_component path
