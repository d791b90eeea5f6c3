use Rattle.globsift.proofs.lemmas.Lines.{IsWholeLines-after}
use Rattle.globsift.proofs.lemmas.Output.{sifted-append}
use Rattle.std.proofs.Common.{[], ◌∷◌, ◌++◌}
use Rattle.globsift.proofs.laws.parts_of_input.Goals as goal

pub returns : goal.returns
returns c globs numbered before after = sifted-append globs numbered (before ++ 10 ∷ []) after (IsWholeLines-after before)
