use Rattle.glob_syntax.proofs.lemmas.FirstError.{errors_agree}
use Rattle.glob_syntax.proofs.laws.errors_agree.Goals as goal

pub returns : goal.returns
returns c = errors_agree
