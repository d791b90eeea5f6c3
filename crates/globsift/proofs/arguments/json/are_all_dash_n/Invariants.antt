use Rattle.std.proofs.Common.{◌≡◌, drop, map, string_bytes}
use Rattle.std.specs.List.{list_all}
use Rattle.globsift.specs.Command.{is_dash_n}
use Rattle.globsift.proofs.arguments.json.are_all_dash_n.Given as goal

abbrev pub invariant-loop-argument : goal.invariant-loop-argument
invariant-loop-argument l = list_all is_dash_n (map string_bytes (drop l.argument-index l.arguments)) ≡ list_all is_dash_n (map string_bytes l.arguments)
