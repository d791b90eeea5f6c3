-- Globs that are lent.
use Rattle.std.specs.Prelude.{Some, List, [], ◌∷◌, All, flat_map}
use Rattle.globset_glob.specs.GlobMatches.{GlobValue}
use Rattle.c_objects.specs.Kinds.{IsGlob}
use Rattle.c_objects.specs.declared.lent.Lent.{Lent}
use Rattle.c_objects.specs.declared.object.Object.{Object}
use Rattle.c_objects.specs.declared.object.Object.TheVariants.{Glob}

-- the glob, if the object is a glob
abbrev pub glob_in : Object → List GlobValue
glob_in (Glob g) = g ∷ []
glob_in _ = []

-- the globs among the lent objects, in their order
abbrev pub lent_globs : List Lent → List GlobValue
lent_globs lents = flat_map (λ l. glob_in l.object) lents

-- Each lent object is a glob.
unfoldable pub AreGlobs : List Lent → Type 0
AreGlobs lents = All (λ l. IsGlob (Some l.object)) lents
