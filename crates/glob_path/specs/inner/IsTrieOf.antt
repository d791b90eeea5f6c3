-- The invariant of each trie's tree. A trie has a tree exactly if it has texts.
use Rattle.std.specs.Prelude.{◌≡◌, ℕ, ◌<◌, ◌^◌, List, [], Option, Some, None, length, map}
use Rattle.std.specs.Global.{Box}
use Rattle.glob_path.specs.Entries.{Entry, indexes_under}
use Rattle.glob_path.specs.declared.trie.Anchor.{Anchor}
use Rattle.glob_path.specs.declared.tree.Tree.{Tree}
use Rattle.glob_path.specs.inner.Anchors.{entry_from_anchor}
use Rattle.glob_path.specs.inner.Nodes.{under, IsTree}

pub record IsTrieOf (t : Tree) (anchor : Anchor) (entries : List Entry) : Type 0 where
  pub tree : IsTree t
  pub leads : (w : List ℕ) → under t 0 w ≡ indexes_under (map (entry_from_anchor anchor) entries) w
  pub small : length entries < 2 ^ 64
  pub some : 0 < length entries

abbrev pub HasTree : Option (Box Tree) → Anchor → List Entry → Type 0
HasTree (Some tree) anchor entries = IsTrieOf tree.value anchor entries
HasTree None anchor entries = entries ≡ []
