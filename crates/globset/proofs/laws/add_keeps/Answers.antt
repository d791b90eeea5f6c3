use Rattle.globset.proofs.lemmas.Laws.{adding_keeps}
use Rattle.globset.proofs.laws.add_keeps.Goals as goal

pub returns : goal.returns
returns c = adding_keeps
