use Rattle.glob_syntax.proofs.lemmas.Characters.{characters_are_scalars}
use Rattle.glob_syntax.proofs.laws.characters_are_scalars.Goals as goal

pub returns : goal.returns
returns c = characters_are_scalars
