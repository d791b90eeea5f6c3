use Rattle.glob_relations.proofs.lemmas.Laws.{covers_with_more}
use Rattle.glob_relations.proofs.laws.covers_with_more.Goals as goal

pub returns : goal.returns
returns c = covers_with_more
