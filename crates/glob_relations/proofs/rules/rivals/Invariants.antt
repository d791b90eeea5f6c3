use Rattle.std.proofs.Common.{ℕ, ◌<◌}
use Rattle.std.specs.Prelude.{◌↔◌, Contains}
use Rattle.glob_relations.specs.Rules.{IsRival}
use Rattle.glob_relations.proofs.rules.rivals.Given as goal

abbrev pub invariant-loop-k : goal.invariant-loop-k
invariant-loop-k l = (j : ℕ) → Contains l.others.items j ↔ (IsRival l.patterns l.i l.pattern j × (j < l.k))
