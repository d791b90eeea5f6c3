use Rattle.std.proofs.Common.{◌≡◌, ◌++◌, map, replicate}
use Rattle.glob_syntax.specs.Token.{ZeroOrMore}
use Rattle.glob_syntax.specs.FlatTokens.{simple}
use Rattle.glob_syntax.specs.Views.{flats}
use Rattle.glob_syntax.proofs.stars.push_stars.Given as goal

abbrev pub invariant-loop-i : goal.invariant-loop-i
invariant-loop-i l = flats l.out.items ≡ flats l.fn.out.items ++ map simple (replicate l._i ZeroOrMore)
