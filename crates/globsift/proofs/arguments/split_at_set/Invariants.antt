use Rattle.std.proofs.Common.{◌≡◌, drop, take, map, string_bytes}
use Rattle.globsift.specs.Command.{split_at_set}
use Rattle.globsift.proofs.lemmas.SplitAtSet.{put_before}
use Rattle.globsift.proofs.arguments.split_at_set.Given as goal

abbrev pub invariant-loop-index : goal.invariant-loop-index
invariant-loop-index l =
    split_at_set (map string_bytes l.arguments) ≡ put_before (map string_bytes (take l.index l.arguments)) (split_at_set (map string_bytes (drop l.index l.arguments)))
