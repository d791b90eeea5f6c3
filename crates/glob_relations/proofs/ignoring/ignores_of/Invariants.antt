use Rattle.std.proofs.Common.{◌≡◌, ◌++◌, drop}
use Rattle.glob_relations.specs.inner.Closed.{ignores_of}
use Rattle.glob_relations.proofs.ignoring.ignores_of.Given as goal

abbrev pub invariant-loop-pattern : goal.invariant-loop-pattern
invariant-loop-pattern l = l.ignores.items ++ ignores_of (drop l.pattern-index l.patterns) ≡ ignores_of l.patterns
