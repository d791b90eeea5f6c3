use Rattle.std.proofs.Common.{◌≡◌, ◌≤◌, length, take}
use Rattle.git_ignore.specs.Folders.{files_rule}
use Rattle.git_ignore.specs.inner.Stacks.{files_of}
use Rattle.git_ignore.proofs.folder_rules.VecFolderRulesDecidesAlone.rule_alone.Given as goal

abbrev pub invariant-loop-count : goal.invariant-loop-count
invariant-loop-count l = record {
  within : l.count ≤ length l.self.items;
  scratch : l.scratch ≡ l.initial.scratch;
  later : files_rule (files_of l.self.items) l.path l.is_folder ≡ files_rule (files_of (take l.count l.self.items)) l.path l.is_folder;
}

abbrev pub decreases-loop-count : goal.decreases-loop-count
decreases-loop-count l = l.count
