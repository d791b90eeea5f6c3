use Rattle.std.proofs.Common.{arith}
use Rattle.bit_sets.proofs.lemmas.Changes.{change_inside, change_last}
use Rattle.bit_sets.proofs.words.changes.Goals as goal

pub returns-clause-inside : goal.returns-clause-inside
returns-clause-inside c = λ i lt. change_inside c.args.word c.args.next i lt

pub returns-clause-last : goal.returns-clause-last
returns-clause-last c = change_last c.args.word c.args.next (omega arith)
