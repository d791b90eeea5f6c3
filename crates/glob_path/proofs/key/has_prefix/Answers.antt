use Rattle.std.proofs.Common.{length, drop, sym}
use Rattle.std.proofs.lemmas.Bool.Decides.{Decides-eqb}
use Rattle.std.proofs.lemmas.Slice.Eq.{starts_is}
use Rattle.glob_path.proofs.key.has_prefix.Goals as goal

pub returns : goal.returns
returns c =
    let path = c.args.path.now in
    let key = c.args.key.now in
    let begins = starts_is Decides-eqb path key _ c.starts_with.ensures.value in
    (λ yes. (drop (length key) path, sym (begins.0 yes)), λ (rest, is). begins.1 rest (sym is))
