use Rattle.std.proofs.Common.{◌+◌, ◌≤◌, ◌<◌, ◌^◌, length}
use Rattle.std.specs.List.{AllWithin}
use Rattle.glob_path.proofs.tree.longest.Given as goal

abbrev pub invariant-loop-text : goal.invariant-loop-text
invariant-loop-text l = AllWithin (λ t. length t.bytes.items ≤ l.longest) l.texts 0 l.text-index × (l.longest + 1 < 2 ^ 64)
