use Rattle.std.proofs.Common.{ap, ◌∙◌}
use Rattle.git_ignore.specs.StackValue.{left}
use Rattle.git_ignore.proofs.lemmas.Walks.{folder_left, stack_left}
use Rattle.git_ignore.proofs.stack.IgnoreStack.leave.Goals as goal

pub invariant_of-self : goal.invariant_of-self
invariant_of-self c =
    folder_left c.self.inside.ignore_case c.self.inside.folder.items c.truncate.new.self.items c.self.inside.ignored_by c.self.inside.files.items c.truncate-in-Some.new.self.items c.self.inside.levels.items c.pop.new.self.items c.self.inside.scratch c.in-Some.level
    c.self.invariant c.in-Some.ensures.items c.truncate.ensures.items c.truncate-in-Some.ensures.items

pub returns-in-Some : goal.returns-in-Some
returns-in-Some c =
    stack_left c.self.inside.ignore_case c.self.inside.folder.items c.truncate.new.self.items c.self.inside.files.items c.truncate-in-Some.new.self.items c.self.inside.levels.items c.pop.new.self.items c.in-Some.level
    c.in-Some.ensures.items c.truncate.ensures.items c.truncate-in-Some.ensures.items
    ∙ ap left c.self.view_is
