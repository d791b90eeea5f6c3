-- Ignore files of nested folders, and which of their rules decides about a path. Paths begin in a top folder.
use Rattle.std.specs.Prelude.{ℕ, suc, Bool, List, [], ◌∷◌, length, take, drop, Option, None, if◌then◌else◌}
use Rattle.std.specs.Str.{bytes_eq}
use Rattle.std.specs.Option.{option_or}
use Rattle.git_ignore.specs.Rules.{deciding_rule}
use Rattle.git_ignore.specs.declared.decision.DecidingRule.{DecidingRule}

-- An ignore file: its folder, its bytes, and whether its rules ignore case. The folder is empty for the top folder, and otherwise a
-- path that ends with `/`.
pub record IgnoreFile : Type 0 where
  pub folder : List ℕ
  pub bytes : List ℕ
  pub ignore_case : Bool

-- the path begins with the folder
abbrev pub is_in : List ℕ → List ℕ → Bool
is_in folder path = bytes_eq (take (length folder) path) folder

-- the rule of a file that decides about a path below its folder; the file has this index
abbrev pub file_rule : ℕ → List ℕ → Bool → IgnoreFile → Option DecidingRule
file_rule index path is_folder file = if is_in file.folder path then deciding_rule file.ignore_case file.bytes index (drop (length file.folder) path) is_folder else None

-- the rule of the last of these files that has one; the first file has this index
abbrev pub rule_from : ℕ → List IgnoreFile → List ℕ → Bool → Option DecidingRule
rule_from index [] path is_folder = None
rule_from index (file ∷ files) path is_folder = option_or (rule_from (suc index) files path is_folder) (file_rule index path is_folder file)

-- The rule of files that decides about a path alone, the top file first: that of the last file that has any. So the rules of a
-- folder take precedence over the rules above it.
abbrev pub files_rule : List IgnoreFile → List ℕ → Bool → Option DecidingRule
files_rule files = rule_from 0 files
