use Rattle.std.proofs.Common.{◌≡◌, take}
use Rattle.glob_syntax.specs.Views.{flats}
use Rattle.glob_syntax.proofs.token.copy_of.Given as goal

abbrev pub invariant-loop-token : goal.invariant-loop-token
invariant-loop-token l = flats l.copies.items ≡ flats (take l.token-index l.tokens)
