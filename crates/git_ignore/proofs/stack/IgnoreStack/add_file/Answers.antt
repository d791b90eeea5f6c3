use Rattle.std.proofs.Common.{List, ap, subst, sym, ◌∙◌}
use Rattle.git_ignore.specs.StackValue.{with_file}
use Rattle.git_ignore.specs.declared.folder_rules.FolderRules.{FolderRules}
use Rattle.git_ignore.specs.inner.StackParts.{IsStack}
use Rattle.git_ignore.proofs.lemmas.Stacks.{fit_still}
use Rattle.git_ignore.proofs.lemmas.Walks.{file_added, stack_added}
use Rattle.git_ignore.proofs.stack.IgnoreStack.add_file.Goals as goal

pub invariant_of-self-2 : goal.invariant_of-self-2
invariant_of-self-2 c =
    file_added c.self.inside.ignore_case c.self.inside.folder.items c.deref.result.now c.args.file.now c.self.inside.ignored_by c.self.inside.files.items c.push.new.self.items c.self.inside.levels.items c.self.inside.scratch c.new.new.scratch c.in_ok-rules.rules
    c.self.invariant c.in_ok-push.ensures.items c.in_ok-rules.ensures.file c.deref.ensures.value c.new.ensures.others c.in_ok-rules.ensures.fits

pub invariant_of-self-in_err-push : goal.invariant_of-self-in_err-push
invariant_of-self-in_err-push c =
    subst (λ (files : List FolderRules). IsStack c.self.inside.ignore_case c.self.inside.folder.items c.self.inside.ignored_by files c.self.inside.levels.items c.new.new.scratch) (sym c.in_err-push.ensures.items) (record {
      ignored = c.self.invariant.ignored;
      above = c.self.invariant.above;
      placed = c.self.invariant.placed;
      fits = fit_still c.self.inside.scratch c.new.new.scratch c.self.inside.files.items c.new.ensures.others c.self.invariant.fits;
    })

pub returns-clause-added : goal.returns-clause-added
returns-clause-added c =
    stack_added c.self.inside.ignore_case c.self.inside.folder.items c.deref.result.now c.args.file.now c.self.inside.ignored_by c.self.inside.files.items c.push.new.self.items c.self.inside.levels.items c.self.inside.scratch c.in_ok-rules.rules
    c.self.invariant c.in_ok-push.ensures.items c.in_ok-rules.ensures.file
    ∙ ap (λ v. with_file v c.args.file.now) c.self.view_is
