use Rattle.std.proofs.Common.{length, sym, subst, arith, ◌∙◌}
use Rattle.std.proofs.lemmas.List.{drop_all}
use Rattle.memchr.specs.Find.{IsLastByte, is_byte2}
use Rattle.glob_path.proofs.lemmas.LastPositions.{take_rest}
use Rattle.glob_path.proofs.lemmas.Extensions.{extension_at_dot, extension_elsewhere, extension_nowhere}
use Rattle.glob_path.proofs.path_parts.component_extension.Goals as goal
use Rattle.glob_path.proofs.path_parts.component_extension.Goals.{in-Some+else-path-position-eq46, in_default}

pub returns-then-path-position-eq46 : goal.returns-then-path-position-eq46
returns-then-path-position-eq46 c =
    let path = c.args.path.now in
    let k = c.in-Some.position in
    take_rest path k ∙ sym (extension_at_dot path k (subst (IsLastByte (is_byte2 46 47) path) c.in-Some.is c.memrchr2.ensures) c.if-path-position-eq46.true)

pub returns : goal.returns
returns c =
    let path = c.args.path.now in
    take_rest path (length path) ∙ drop_all (length path) path (omega arith) ∙ elim c.match-memrchr2.branch [
      | in-Some+else-path-position-eq46 w ↦ sym (extension_elsewhere path w.in-Some.position (subst (IsLastByte (is_byte2 46 47) path) w.in-Some.is c.memrchr2.ensures) w.if-path-position-eq46.false)
      | in_default w ↦ sym (extension_nowhere path (subst (IsLastByte (is_byte2 46 47) path) w.in_default.is c.memrchr2.ensures))
    ]
