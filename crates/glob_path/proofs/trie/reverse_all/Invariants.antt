use Rattle.std.proofs.Common.{◌≡◌, ◌++◌, map, take, drop}
use Rattle.glob_path.specs.declared.trie.Anchor.TheVariants.{End}
use Rattle.glob_path.specs.Texts.{entry_of}
use Rattle.glob_path.specs.inner.Anchors.{entry_from_anchor}
use Rattle.glob_path.proofs.trie.reverse_all.Given as goal

abbrev pub invariant-loop-text : goal.invariant-loop-text
invariant-loop-text l =
    map entry_of l.texts ≡ map (entry_from_anchor End) (take l.text-index (map entry_of l.initial.texts)) ++ drop l.text-index (map entry_of l.initial.texts)
