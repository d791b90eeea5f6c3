use Rattle.std.proofs.Common.{arith}
use Rattle.bit_sets.proofs.lemmas.Texts.{all_bytes}
use Rattle.globset_glob.proofs.matcher.bytes_of.Goals as goal

pub returns-clause-bytes : goal.returns-clause-bytes
returns-clause-bytes c = all_bytes c.args.text.now (λ i. omega (arith, c.type_inv.text i))
