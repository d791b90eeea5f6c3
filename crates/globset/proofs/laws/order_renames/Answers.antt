use Rattle.globset.proofs.lemmas.Laws.{order_only_renames}
use Rattle.globset.proofs.laws.order_renames.Goals as goal

pub returns : goal.returns
returns c = order_only_renames
