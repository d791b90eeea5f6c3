use Rattle.glob_path.proofs.lemmas.Laws as laws
use Rattle.glob_path.proofs.laws.finds_exactly.Goals as goal

pub returns : goal.returns
returns c = laws.finds_exactly
