-- The stored form of a walk. No contract of the crate's public calls cites this.
use Rattle.std.specs.Prelude.{◌≡◌, ◌≤◌, ℕ, Bool, List, [], ◌∷◌, map, length, take, drop, All}
use Rattle.git_ignore.specs.Folders.{IgnoreFile, files_rule}
use Rattle.git_ignore.specs.TwoRules.{ignored_above}
use Rattle.git_ignore.specs.RulesValue.{FitsRules, ScratchValue}
use Rattle.git_ignore.specs.StackValue.{OpenFolder}
use Rattle.git_ignore.specs.declared.folder_rules.FolderRules.{FolderRules}
use Rattle.git_ignore.specs.declared.stack.FolderLevel.{FolderLevel}

-- the ignore file of rules, and its folder
abbrev pub file_of : FolderRules → IgnoreFile
file_of r = record { folder = r.folder.items; bytes = r.rules.file; ignore_case = r.rules.ignore_case }

-- the ignore files of several rules, in the same order
abbrev pub files_of : List FolderRules → List IgnoreFile
files_of files = map file_of files

-- the scratch fits the rules of each file
abbrev pub FitAll : ScratchValue → List FolderRules → Type 0
FitAll scratch files = All (λ (f : FolderRules). FitsRules scratch f.rules) files

-- The level is of a folder above this path's folder, and it has the rule that ignores it or a folder above it, if any does.
pub record IsLevel (path : List ℕ) (known : List IgnoreFile) (l : FolderLevel) : Type 0 where
  pub folder : l.folder ≤ length path
  pub files : l.files ≤ length known
  pub ignored : l.ignored_by ≡ ignored_above (files_rule (take l.files known)) (take l.folder path)

-- the levels above a folder, from the nearest up
abbrev pub AreLevels : List ℕ → List IgnoreFile → List FolderLevel → Type 0
AreLevels folder files [] = Unit {0}
AreLevels folder files (l ∷ ls) = IsLevel folder files l × AreLevels (take l.folder folder) (take l.files files) ls

-- the bytes of files
abbrev pub bytes_of : List IgnoreFile → List (List ℕ)
bytes_of files = map (λ (f : IgnoreFile). f.bytes) files

-- the folder of a walk, whose first files belong to the folders above
abbrev pub here_of : List ℕ → List IgnoreFile → List FolderLevel → OpenFolder
here_of folder files [] = record { path = folder; files = bytes_of files }
here_of folder files (l ∷ ls) = record { path = folder; files = bytes_of (drop l.files files) }

-- the folders above it, from the nearest up
abbrev pub above_of : List ℕ → List IgnoreFile → List FolderLevel → List OpenFolder
above_of folder files [] = []
above_of folder files (l ∷ ls) = here_of (take l.folder folder) (take l.files files) ls ∷ above_of (take l.folder folder) (take l.files files) ls

-- each file is in the folder, and its rules ignore case or not, as is given
abbrev pub AreIn : Bool → List ℕ → List IgnoreFile → Type 0
AreIn ignore_case folder [] = Unit {0}
AreIn ignore_case folder (f ∷ fs) = (f ≡ record { folder = folder; bytes = f.bytes; ignore_case = ignore_case }) × AreIn ignore_case folder fs

-- each file is in the folder to whose files it belongs
abbrev pub AreInFolders : Bool → List ℕ → List IgnoreFile → List FolderLevel → Type 0
AreInFolders ignore_case folder files [] = AreIn ignore_case folder files
AreInFolders ignore_case folder files (l ∷ ls) = AreIn ignore_case folder (drop l.files files) × AreInFolders ignore_case (take l.folder folder) (take l.files files) ls
