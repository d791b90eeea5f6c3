use Rattle.globset.proofs.lemmas.Laws.{below_ends}
use Rattle.globset.proofs.laws.below_ends.Goals as goal

pub returns : goal.returns
returns c = below_ends
