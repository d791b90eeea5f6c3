use Rattle.glob_relations.proofs.lemmas.Laws.{covered_is_not_needed}
use Rattle.glob_relations.proofs.laws.covered_is_not_needed.Goals as goal

pub returns : goal.returns
returns c = covered_is_not_needed
