use Rattle.std.proofs.Common.{◌++◌, ap, is_some, sym, ◌∙◌}
use Rattle.std.proofs.lemmas.Bool.{false≢true}
use Rattle.git_ignore.specs.Folders.{files_rule}
use Rattle.git_ignore.specs.TwoRules.{deciding}
use Rattle.git_ignore.specs.inner.Stacks.{files_of}
use Rattle.git_ignore.proofs.lemmas.TwoRules.{ignored_below}
use Rattle.git_ignore.proofs.lemmas.Walks.{stored_files, stored_path}
use Rattle.git_ignore.proofs.stack.IgnoreStack.deciding_rule.Goals as goal
use Rattle.git_ignore.proofs.stack.IgnoreStack.deciding_rule.Goals.{in-Git, in_default}

pub returns-then-is_some-clause-rule : goal.returns-then-is_some-clause-rule
returns-then-is_some-clause-rule c =
    let files = stored_files c.self.inside.ignore_case c.self.inside.folder.items c.self.inside.ignored_by c.self.inside.files.items c.self.inside.levels.items c.self.inside.scratch c.args.self.now c.self.invariant c.self.view_is in
    let path = stored_path c.self.inside.ignore_case c.self.inside.folder.items c.self.inside.files.items c.self.inside.levels.items c.args.self.now c.self.view_is in
    let some = sym c.is_some.ensures ∙ c.if-is_some.true in
    elim c.match-by.branch [
      | in-Git w ↦ w.known-is
          ∙ ignored_below (files_rule (files_of c.self.inside.files.items)) c.self.inside.folder.items c.args.path.now c.args.is_folder c.self.inside.ignored_by
          (sym (ap is_some w.known-is) ∙ some) (sym c.self.invariant.ignored)
          ∙ (λ i. deciding (sym w.in-Git.is i) (files_rule (files i)) (path i ++ c.args.path.now) c.args.is_folder)
      | in_default w ↦ absurd (false≢true (sym (ap is_some w.known-is) ∙ some))
    ]

pub returns-clause-rule : goal.returns-clause-rule
returns-clause-rule c =
    let files = stored_files c.self.inside.ignore_case c.self.inside.folder.items c.self.inside.ignored_by c.self.inside.files.items c.self.inside.levels.items c.self.inside.scratch c.args.self.now c.self.invariant c.self.view_is in
    let path = stored_path c.self.inside.ignore_case c.self.inside.folder.items c.self.inside.files.items c.self.inside.levels.items c.args.self.now c.self.view_is in
    let whole = c.deref.ensures.value ∙ c.in_ok-extend_from_slice.ensures.items in
    c.deciding-rule.ensures.rule
    ∙ (λ i. deciding c.args.by (files_rule (files_of c.self.inside.files.items)) (whole i) c.args.is_folder)
    ∙ (λ i. deciding c.args.by (files_rule (files i)) (path i ++ c.args.path.now) c.args.is_folder)
