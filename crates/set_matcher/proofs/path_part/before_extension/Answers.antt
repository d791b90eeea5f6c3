use Rattle.std.proofs.Common.{◌-◌, length, take, ap, arith}
use Rattle.std.proofs.lemmas.List.{length-append}
use Rattle.glob_path.specs.PathParts.{component_extension}
use Rattle.set_matcher.specs.inner.Automata.{before_extension}
use Rattle.set_matcher.proofs.lemmas.Automata.{extension_cut}
use Rattle.set_matcher.proofs.path_part.before_extension.Goals as goal

pub overflow_sub-end : goal.overflow_sub-end
overflow_sub-end c =
    let path = c.args.path.now in
    let all = ap length (extension_cut path) in
    let parts = length-append (before_extension path) (component_extension path) in
    let same = ap length c.extension.ensures in
    let bytes = ap length c.path-bytes.ensures in
    omega (arith, all, parts, same, bytes)

pub returns : goal.returns
returns c = λ i. take (length (c.path-bytes.ensures i) - length (c.extension.ensures i)) (c.path-bytes.ensures i)
