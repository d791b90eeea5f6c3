use Rattle.std.proofs.Common.{◌≡◌, ℕ, length, Some}
use Rattle.std.specs.Prelude.{slice_get}
use Rattle.glob_text.specs.GlobMatches.{GlobValue, glob_matches}
use Rattle.glob_relations.specs.Unused.{rivals, TellsReachability}
use Rattle.glob_relations.specs.declared.unused.Reachability.{Reachability}
use Rattle.glob_relations.proofs.unused.unreachable.Given as goal

abbrev pub invariant-loop-i : goal.invariant-loop-i
invariant-loop-i l = record {
  len : length l.all.items ≡ l.i;
  each : (i : ℕ) (g : GlobValue) (told : Reachability) → slice_get l.globs i ≡ Some g → slice_get l.all.items i ≡ Some told → TellsReachability glob_matches l.globs g (rivals l.decides i (length l.globs)) l.domain l.limit told;
}
