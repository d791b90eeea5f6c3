use Rattle.std.proofs.Common.{◌≡◌, ℕ, length, Some}
use Rattle.std.specs.Prelude.{slice_get}
use Rattle.ignore_pattern.specs.Patterns.{Pattern}
use Rattle.glob_relations.specs.Rules.{TellsRule}
use Rattle.glob_relations.specs.declared.rules.RuleReachability.{RuleReachability}
use Rattle.glob_relations.proofs.rules.unreachable_rules.Given as goal

abbrev pub invariant-loop-i : goal.invariant-loop-i
invariant-loop-i l = record {
  len : length l.all.items ≡ l.i;
  each : (i : ℕ) (p : Pattern) (told : RuleReachability) → slice_get l.patterns i ≡ Some p → slice_get l.all.items i ≡ Some told → TellsRule l.ignore_case l.patterns i p l.fn.domain l.limit told;
}
