use Rattle.std.proofs.Common.{◌≡◌, take}
use Rattle.git_ignore.specs.Folders.{files_rule}
use Rattle.git_ignore.specs.inner.PathRules.{IsPathRule}
use Rattle.git_ignore.specs.inner.Stacks.{files_of}
use Rattle.git_ignore.proofs.folder_rules.VecFolderRulesDecidesAlone.path_rule.Given as goal

abbrev pub invariant-loop-index : goal.invariant-loop-index
invariant-loop-index l = record {
  scratch : l.scratch ≡ l.initial.scratch;
  told : IsPathRule (files_rule (files_of (take l.index l.self.items))) l.path l.is_folder l.told;
}
