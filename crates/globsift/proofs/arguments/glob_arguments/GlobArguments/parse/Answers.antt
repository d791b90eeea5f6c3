use Rattle.std.proofs.Common.{◌∙◌, [], sym, map, string_bytes}
use Rattle.std.proofs.lemmas.Result.{err_from_is_err_and}
use Rattle.globset.specs.SetValue.{builder_globs}
use Rattle.globsift.specs.Command.{parse_arguments, collect_globs}
use Rattle.globsift.specs.inner.Parsing.{collect_onto, parse_all_with_flags, with_globs}
use Rattle.globsift.proofs.lemmas.Parsing.{collect_onto-arguments, same_fault, numbered-flags}
use Rattle.globsift.proofs.arguments.glob_arguments.GlobArguments.parse.Goals as goal

pub returns-in_err-after : goal.returns-in_err-after
returns-in_err-after c =
    let arguments = map string_bytes c.args.arguments.now in
    let p = err_from_is_err_and c.from_residual.result c.from_residual.ensures.1 in
    rw (p.1, p.2) (same_fault (collect_onto (builder_globs c.new.result) (parse_all_with_flags c.none.result arguments)) (collect_globs (parse_arguments [] arguments)) c.in_err-after.field-0.0
    (collect_onto-arguments arguments c.none.result (builder_globs c.new.result) c.none.ensures c.new.ensures) c.in_err-after.ensures)

pub returns-in_err-add_globs : goal.returns-in_err-add_globs
returns-in_err-add_globs c =
    let arguments = map string_bytes c.args.arguments.now in
    let p = err_from_is_err_and c.from_residual-in_err-add_globs.result c.from_residual-in_err-add_globs.ensures.1 in
    rw (p.1, p.2) (same_fault (with_globs c.parse_up_to_end.new.self (map string_bytes c.in_ok-after.after.now)) (collect_globs (parse_arguments [] arguments)) c.in_err-add_globs.field-0.0
    (c.in_ok-after.ensures.0 ∙ collect_onto-arguments arguments c.none.result (builder_globs c.new.result) c.none.ensures c.new.ensures) c.in_err-add_globs.ensures)

pub returns : goal.returns
returns c =
    let arguments = map string_bytes c.args.arguments.now in (
      sym (c.in_ok-after.ensures.0 ∙ collect_onto-arguments arguments c.none.result (builder_globs c.new.result) c.none.ensures c.new.ensures) ∙ c.in_ok-add_globs.ensures.0,
      numbered-flags arguments c.none.result c.parse_up_to_end.new.self.flags c.add_globs.new.self.flags c.none.ensures c.in_ok-after.ensures.1 c.in_ok-add_globs.ensures.1,
    )
