use Rattle.std.proofs.Common.{◌≡◌, map, take}
use Rattle.glob_path.proofs.tree.indexes_of.Given as goal

abbrev pub invariant-loop-text : goal.invariant-loop-text
invariant-loop-text l = l.indexes.items ≡ map (λ t. t.index) (take l.text-index l.texts)
