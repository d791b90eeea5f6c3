use Rattle.std.proofs.Common.{◌≡◌, take}
use Rattle.set_matcher.specs.inner.Folders.{bytes_of, shown_of}
use Rattle.set_matcher.proofs.folders.copies.Given as goal

abbrev pub invariant-loop-text : goal.invariant-loop-text
invariant-loop-text l = bytes_of l.copies.items ≡ shown_of (take l.text-index l.texts)
