use Rattle.std.proofs.Common.{◌≡◌, length, drop}
use Rattle.serde_json.specs.View.{items_view}
use Rattle.globset.specs.SetFromValue.{globs_from}
use Rattle.globset.proofs.lemmas.SetFromValue.{onto}
use Rattle.globset.proofs.set.read_globs.Given as goal

abbrev pub invariant-loop-index : goal.invariant-loop-index
invariant-loop-index l = record {
  read : globs_from 0 (items_view l.values) ≡ onto l.builder.given (globs_from l.index (items_view (drop l.index l.values)));
  so_far : length l.builder.given ≡ l.index;
  count : l.builder.count ≡ length l.values;
}
