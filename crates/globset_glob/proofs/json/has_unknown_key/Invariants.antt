use Rattle.std.proofs.Common.{◌≡◌}
use Rattle.serde_json.specs.View.{members_view}
use Rattle.globset_glob.specs.Values.{has_unknown_key}
use Rattle.globset_glob.proofs.json.has_unknown_key.Given as goal

abbrev pub invariant-loop-key : goal.invariant-loop-key
invariant-loop-key l =
    (goal.iterator-loop-key).can_next l.key-iterator ×
    (goal.iterator-loop-key).is_finite l.key-iterator ×
    (has_unknown_key (members_view l.members.entries) ≡ has_unknown_key (members_view l.key-iterator))
