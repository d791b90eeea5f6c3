use Rattle.std.proofs.Common.{ap, ◌∙◌}
use Rattle.std.specs.Prelude.{is_some}
use Rattle.git_ignore.specs.Folders.{files_rule}
use Rattle.git_ignore.specs.TwoRules.{ignored_above}
use Rattle.git_ignore.proofs.lemmas.Walks.{stored_files, stored_path}
use Rattle.git_ignore.proofs.stack.IgnoreStack.is_ignored.Goals as goal

pub returns : goal.returns
returns c =
    let files = stored_files c.self.inside.ignore_case c.self.inside.folder.items c.self.inside.ignored_by c.self.inside.files.items c.self.inside.levels.items c.self.inside.scratch c.args.self.now c.self.invariant c.self.view_is in
    let path = stored_path c.self.inside.ignore_case c.self.inside.folder.items c.self.inside.files.items c.self.inside.levels.items c.args.self.now c.self.view_is in
    c.is_some.ensures ∙ ap is_some (c.self.invariant.ignored ∙ (λ i. ignored_above (files_rule (files i)) (path i)))
