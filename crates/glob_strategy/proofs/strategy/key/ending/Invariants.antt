use Rattle.std.proofs.Common.{◌≡◌, true, ◌-◌, drop, length}
use Rattle.glob_syntax.specs.Views.{flats}
use Rattle.glob_strategy.specs.inner.FlatTests.{all_simple_pass}
use Rattle.glob_strategy.proofs.lemmas.FlatTests.{is_plain}
use Rattle.glob_strategy.proofs.strategy.key.ending.Given as goal

-- the last i tokens are literals other than `.` and `/`
abbrev pub invariant-loop-i : goal.invariant-loop-i
invariant-loop-i l = all_simple_pass is_plain (flats (drop (length l.tokens - l.i) l.tokens)) ≡ true
