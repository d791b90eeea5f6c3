use Rattle.std.proofs.Common.{◌≡◌, take}
use Rattle.serde_json.specs.View.{members_view}
use Rattle.globset_glob.specs.Values.{keyed_options, with_options}
use Rattle.globset_glob.proofs.json.put_options.Given as goal

abbrev pub invariant-loop-i : goal.invariant-loop-i
invariant-loop-i l = members_view l.members.entries ≡ with_options (take l.i (keyed_options l.fn.options)) (members_view l.fn.members.entries)
