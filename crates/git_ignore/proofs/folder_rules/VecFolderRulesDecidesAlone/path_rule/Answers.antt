use Rattle.std.proofs.Common.{◌∙◌, subst}
use Rattle.git_ignore.specs.Folders.{files_rule}
use Rattle.git_ignore.specs.inner.PathRules.{IsPathRule}
use Rattle.git_ignore.specs.inner.Stacks.{files_of}
use Rattle.git_ignore.specs.declared.path_rule.PathRule.{PathRule}
use Rattle.std.proofs.Common.{◌+◌, sym, take}
use Rattle.git_ignore.proofs.lemmas.PathRules.{files_tell}
use Rattle.git_ignore.proofs.folder_rules.VecFolderRulesDecidesAlone.path_rule.Goals as goal

pub loop-index-preserved : goal.loop-index-preserved
loop-index-preserved c =
    let l = c.loop-index in
    let items = c.deref-file-items.ensures.value in
    record {
      scratch = c.path_rule.ensures.scratch ∙ l.invariant.scratch;
      told = subst (λ (r : PathRule). IsPathRule (files_rule (files_of (take (l.index + 1) c.args.self.now.items))) c.args.path.now c.args.is_folder r) (sym c.joined-told.ensures)
          (files_tell c.args.self.now.items l.index c.file-item.result c.args.path.now c.args.is_folder l.told c.path_rule.result (rw items at c.loop-index-test.true) (rw items at c.file-item.is) l.invariant.told c.path_rule.ensures.rule);
    }
