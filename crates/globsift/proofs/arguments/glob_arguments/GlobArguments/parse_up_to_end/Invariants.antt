use Rattle.std.proofs.Common.{◌≡◌, ◌||◌, length, map, string_bytes}
use Rattle.globsift.specs.Command.{is_numbered}
use Rattle.globsift.specs.inner.Parsing.{with_arguments}
use Rattle.globsift.proofs.arguments.glob_arguments.GlobArguments.parse_up_to_end.Given as goal

abbrev pub invariant-loop-rest : goal.invariant-loop-rest
invariant-loop-rest l =
    (with_arguments l.self (map string_bytes l.rest) ≡ with_arguments l.initial.self (map string_bytes l.arguments))
    × ((l.self.flags.numbered || is_numbered (map string_bytes l.rest)) ≡ (l.initial.self.flags.numbered || is_numbered (map string_bytes l.arguments)))

abbrev pub decreases-loop-rest : goal.decreases-loop-rest
decreases-loop-rest l = length l.rest
