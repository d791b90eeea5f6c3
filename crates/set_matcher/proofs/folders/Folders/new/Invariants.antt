use Rattle.std.proofs.Common.{◌++◌, map, take}
use Rattle.glob_path.specs.Texts.{entry_of}
use Rattle.set_matcher.specs.inner.Folders.{HaveFolders, shown_of}
use Rattle.set_matcher.proofs.folders.Folders.new.Given as goal

abbrev pub invariant-loop-at : goal.invariant-loop-at
invariant-loop-at l = HaveFolders (shown_of l.starts.items) (take l.at l.paths)

abbrev pub invariant-loop-text : goal.invariant-loop-text
invariant-loop-text l = HaveFolders (shown_of l.starts.items) (l.paths ++ map entry_of (take l.text-index l.prefixes))
