-- The number of visits that a count's snapshots stand for.
use Rattle.std.specs.Prelude.{ℕ, ◌+◌}
use Rattle.bit_sets.specs.declared.visits.Ticks.{Ticks, Start, After'}

abbrev pub count : Ticks → ℕ
count Start = 0
count (After' _ before) = count before + 1
