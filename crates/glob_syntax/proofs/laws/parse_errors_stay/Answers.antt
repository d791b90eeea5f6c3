use Rattle.glob_syntax.proofs.lemmas.ParseErrorsStay.{parse_errors_stay}
use Rattle.glob_syntax.proofs.laws.parse_errors_stay.Goals as goal

pub returns : goal.returns
returns c = parse_errors_stay
