-- Paths and texts as they are read from a side of a path: from the end each is reversed.
use Rattle.std.specs.Prelude.{ℕ, List, reverse}
use Rattle.glob_path.specs.Entries.{Entry, entry}
use Rattle.glob_path.specs.declared.trie.Anchor.{Anchor}
use Rattle.glob_path.specs.declared.trie.Anchor.TheVariants.{Start, End}

-- the bytes, in the order of reading
abbrev pub from_anchor : Anchor → List ℕ → List ℕ
from_anchor Start p = p
from_anchor End p = reverse p

-- the entry with its key in that order
abbrev pub entry_from_anchor : Anchor → Entry → Entry
entry_from_anchor anchor e = entry (from_anchor anchor e.key) e.index
