use Rattle.std.proofs.Common.{arith}
use Rattle.bit_sets.proofs.lemmas.Texts.{all_bytes}
use Rattle.glob_path.proofs.path_parts.PathParts.new.Goals as goal

pub returns-clause-bytes : goal.returns-clause-bytes
returns-clause-bytes c = all_bytes c.args.path.now (λ i. omega (arith, c.type_inv.path i))
