-- The paths that a question is about.
use Rattle.std.specs.Prelude.{◌==◌, ◌&&◌, ℕ, Bool, not, List, [], ◌∷◌, IsTrue}
use Rattle.std.specs.List.{list_all, slice_split}
use Rattle.std.specs.Str.{bytes_eq}
use Rattle.bit_sets.specs.Texts.{AllBytes}
use Rattle.glob_relations.specs.declared.domain.Domain.{Domain}
use Rattle.glob_relations.specs.declared.domain.Domain.TheVariants.{AllPaths, RelativePaths}

-- the components of a path: what stands before, between and after each `/`
abbrev pub components : List ℕ → List (List ℕ)
components path = slice_split (λ b. b == 47) path

-- a component that a file system has: it is not empty, `.` or `..`, and has no NUL
abbrev pub is_component : List ℕ → Bool
is_component c = not (bytes_eq c []) && (not (bytes_eq c (46 ∷ [])) && (not (bytes_eq c (46 ∷ 46 ∷ [])) && list_all (λ b. not (b == 0)) c))

-- the list of bytes is a path of the domain
abbrev pub IsIn : Domain → List ℕ → Type 0
IsIn AllPaths path = AllBytes path
IsIn RelativePaths path = AllBytes path × IsTrue (list_all is_component (components path))
