-- The invariants of each table's parts.
use Rattle.std.specs.Prelude.{◌≡◌, ◌≢◌, List, [], ◌∷◌, length}
use Rattle.glob_path.specs.Entries.{Entry}
use Rattle.glob_path.specs.declared.table.Contents.{Contents}
use Rattle.glob_path.specs.declared.table.Contents.TheVariants.{None, One, Many}
use Rattle.glob_path.specs.declared.table.Keys.{Keys}
use Rattle.glob_path.specs.inner.Ends.{HasEnds}
use Rattle.glob_path.specs.inner.Pairs.{entries_of}
use Rattle.glob_path.specs.inner.Rows.{HasRows}
use Rattle.glob_path.specs.inner.Starts.{HasStarts}

-- the rows belong to the entries, which are not empty, and there are as many indexes; the ends and the starts belong to the rows
pub record AreKeys (k : Keys) (entries : List Entry) : Type 0 where
  pub has_rows : HasRows k.bytes.items k.rows.items k.indexes.items entries
  pub has_ends : HasEnds k.bytes.items k.rows.items k.ends
  pub has_starts : HasStarts k.rows.items k.directory.shift k.directory.starts.items
  pub counted : length k.indexes.items ≡ length entries
  pub some : entries ≢ []

-- what a table keeps is that of its entries
abbrev pub HasContents : Contents → List Entry → Type 0
HasContents None entries = entries ≡ []
HasContents (One bytes pair) entries = entries ≡ entries_of bytes.items (pair ∷ [])
HasContents (Many keys) entries = AreKeys keys.value entries
