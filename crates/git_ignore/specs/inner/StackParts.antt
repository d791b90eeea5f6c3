-- A walk by its stored form. No contract of the crate's public calls cites this.
use Rattle.std.specs.Prelude.{◌≡◌, ℕ, Bool, List, Option, reverse}
use Rattle.git_ignore.specs.RulesValue.{ScratchValue}
use Rattle.git_ignore.specs.Folders.{IgnoreFile, files_rule}
use Rattle.git_ignore.specs.TwoRules.{ignored_above}
use Rattle.git_ignore.specs.StackValue.{StackValue}
use Rattle.git_ignore.specs.declared.decision.DecidingRule.{DecidingRule}
use Rattle.git_ignore.specs.declared.folder_rules.FolderRules.{FolderRules}
use Rattle.git_ignore.specs.declared.stack.FolderLevel.{FolderLevel}
use Rattle.git_ignore.specs.inner.Stacks.{AreInFolders, AreLevels, FitAll, above_of, files_of, here_of}

-- the walk in a folder, with its files and the files above it, and with the levels above it, from the nearest up
abbrev pub walk_of : Bool → List ℕ → List IgnoreFile → List FolderLevel → StackValue
walk_of ignore_case folder files levels = record { ignore_case = ignore_case; here = here_of folder files levels; above = above_of folder files levels }

-- the walk by what is stored: the files with their rules, and the levels from the top down
abbrev pub stack_value : Bool → List ℕ → List FolderRules → List FolderLevel → StackValue
stack_value ignore_case folder files levels = walk_of ignore_case folder (files_of files) (reverse levels)

-- The invariants of a stored walk. It has the rule that ignores its folder or a folder above it, if any does, and the levels of
-- the folders above. Each file is in the folder to whose files it belongs, and the scratch fits the rules of each.
pub record IsStack (ignore_case : Bool) (folder : List ℕ) (ignored_by : Option DecidingRule) (files : List FolderRules) (levels : List FolderLevel) (scratch : ScratchValue) : Type 0 where
  pub ignored : ignored_by ≡ ignored_above (files_rule (files_of files)) folder
  pub above : AreLevels folder (files_of files) (reverse levels)
  pub placed : AreInFolders ignore_case folder (files_of files) (reverse levels)
  pub fits : FitAll scratch files
