use Rattle.globset.proofs.lemmas.Laws.{one_glob_is_reported}
use Rattle.globset.proofs.laws.one_glob_set.Goals as goal

pub returns : goal.returns
returns c = one_glob_is_reported
