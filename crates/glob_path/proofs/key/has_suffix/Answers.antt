use Rattle.std.proofs.Common.{◌-◌, length, take, sym}
use Rattle.std.proofs.lemmas.Bool.Decides.{Decides-eqb}
use Rattle.std.proofs.lemmas.Slice.Eq.{ends_is}
use Rattle.glob_path.proofs.key.has_suffix.Goals as goal

pub returns : goal.returns
returns c =
    let path = c.args.path.now in
    let key = c.args.key.now in
    let ends = ends_is Decides-eqb path key _ c.ends_with.ensures.value in
    (λ yes. (take (length path - length key) path, sym (ends.0 yes)), λ (front, is). ends.1 front (sym is))
