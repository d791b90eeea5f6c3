use Rattle.globset.proofs.lemmas.Laws.{below_has_paths}
use Rattle.globset.proofs.laws.below_has_paths.Goals as goal

pub returns : goal.returns
returns c = below_has_paths
