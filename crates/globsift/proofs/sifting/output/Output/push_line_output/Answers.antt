use Rattle.globset.specs.SetValue.{set_globs}
use Rattle.globsift.proofs.lemmas.Output.{line_skipped, line_pushed}
use Rattle.globsift.proofs.sifting.output.Output.push_line_output.Goals as goal

pub returns-then-not-branch-clause-done : goal.returns-then-not-branch-clause-done
returns-then-not-branch-clause-done c =
    let told = c.in_ok-push_index_column.ensures.done in
    line_skipped (set_globs c.args.self.now.searcher.set) c.args.self.now.numbered c.args.line.now _ _ _ _ _ told.0 told.1 (told.3 c.if-not-branch.true) c.if-not-branch.true

pub returns-clause-done : goal.returns-clause-done
returns-clause-done c =
    let told = c.in_ok-push_index_column.ensures.done in
    line_pushed (set_globs c.args.self.now.searcher.set) c.args.self.now.numbered c.args.line.now _ _ _ _ _ _ told.0 (told.2 c.if-not-branch.false) c.if-not-branch.false
    c.in_ok-extend_from_slice.ensures.items c.in_ok-push.ensures.items
