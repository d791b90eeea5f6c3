use Rattle.std.proofs.Common.{arith}
use Rattle.bit_sets.proofs.lemmas.Texts.{all_bytes}
use Rattle.glob_strategy.proofs.strategy.are_bytes.Goals as goal

pub returns : goal.returns
returns c = all_bytes c.args.bytes.now (λ i. omega (arith, c.type_inv.bytes i))
