-- The folder that a walk is in, and those above it with their ignore files, as contracts see them.
use Rattle.std.specs.Prelude.{ℕ, Bool, List, [], ◌∷◌, ◌++◌, map, Option, slice_get}
use Rattle.std.specs.Option.{option_map}
use Rattle.git_ignore.specs.Folders.{IgnoreFile, files_rule}
use Rattle.git_ignore.specs.TwoRules.{deciding}
use Rattle.git_ignore.specs.declared.decision.DecideBy.{DecideBy}
use Rattle.git_ignore.specs.declared.decision.DecidingRule.{DecidingRule}

-- a folder of a walk: its path, which is empty or ends with `/`, and its ignore files, in the order of their additions
pub record OpenFolder : Type 0 where
  pub path : List ℕ
  pub files : List (List ℕ)

-- A walk is seen as whether rules ignore case, its current folder, and the folders above it, from the nearest up.
pub record StackValue : Type 0 where
  pub ignore_case : Bool
  pub here : OpenFolder
  pub above : List OpenFolder

-- the ignore files of folders, the last folder's first
abbrev pub files_in : Bool → List OpenFolder → List IgnoreFile
files_in ignore_case [] = []
files_in ignore_case (f ∷ fs) = files_in ignore_case fs ++ map (λ bytes. record { folder = f.path; bytes = bytes; ignore_case = ignore_case }) f.files

-- the ignore files of the current folder and of the folders above it, from the top down
abbrev pub stack_files : StackValue → List IgnoreFile
stack_files s = files_in s.ignore_case (s.here ∷ s.above)

-- the bytes of the file with this index among them, if there is one
abbrev pub file_at : StackValue → ℕ → Option (List ℕ)
file_at s index = option_map (λ (f : IgnoreFile). f.bytes) (slice_get (stack_files s) index)

-- the rule that decides about a path below the current folder
abbrev pub stack_rule : StackValue → DecideBy → List ℕ → Bool → Option DecidingRule
stack_rule s by path is_folder = deciding by (files_rule (stack_files s)) (s.here.path ++ path) is_folder

-- the walk in the top folder, without files
abbrev pub at_top : Bool → StackValue
at_top ignore_case = record { ignore_case = ignore_case; here = record { path = []; files = [] }; above = [] }

-- with another ignore file, which is in the current folder
abbrev pub with_file : StackValue → List ℕ → StackValue
with_file s bytes = record { ignore_case = s.ignore_case; here = record { path = s.here.path; files = s.here.files ++ bytes ∷ [] }; above = s.above }

-- in a folder of this name in the folder that the walk was in
abbrev pub entered : StackValue → List ℕ → StackValue
entered s name = record { ignore_case = s.ignore_case; here = record { path = s.here.path ++ name ++ 47 ∷ []; files = [] }; above = s.here ∷ s.above }

-- in the folder above, with the files that it has; the top folder is not left
abbrev pub left : StackValue → StackValue
left s = elim s.above [ [] ↦ s | f ∷ fs ↦ record { ignore_case = s.ignore_case; here = f; above = fs } ]
