use Rattle.std.proofs.Common.{◌≡◌, ◌++◌, take, map, decimal}
use Rattle.std.specs.List.{join_with_byte}
use Rattle.globsift.proofs.sifting.output.push_index_text.Given as goal

abbrev pub invariant-loop-i : goal.invariant-loop-i
invariant-loop-i l = l.output.items ≡ l.initial.output.items ++ join_with_byte 44 (map decimal (take l.i l.indexes))
