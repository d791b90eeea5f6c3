-- Keys in parts: the number of indexes that the tables have for a path, and the invariants of all keys.
use Rattle.std.specs.Prelude.{◌≡◌, ◌≢◌, ℕ, ◌+◌, ◌⊎◌, Option, MatchOption, List, [], length}
use Rattle.glob_path.specs.Entries.{Entry, indexes_under}
use Rattle.glob_path.specs.declared.trie.Anchor.TheVariants.{Start, End}
use Rattle.glob_path.specs.Texts.{Texts}
use Rattle.glob_path.specs.PathParts.{last_component, component_extension}
use Rattle.set_matcher.specs.inner.LiteralIndex.{KeyParts}
use Rattle.set_matcher.specs.inner.Folders.{AreFolders}

-- how many indexes are found in tables
abbrev pub tables_count : KeyParts → List ℕ → ℕ
tables_count t path = length (indexes_under t.paths path) + length (indexes_under t.components (last_component path)) + length (indexes_under t.extensions (component_extension path))

-- there are keys for last components, for extensions or for ends of paths
abbrev pub HasOthers : List Entry → List Entry → List Entry → Type 0
HasOthers components extensions ends = (components ≢ []) ⊎ ((extensions ≢ []) ⊎ (ends ≢ []))

-- The folders are known below which some path or some beginning is, exactly if there are no keys of other kinds.
abbrev pub HasFolders : Option (List (List ℕ)) → (paths components extensions prefixes ends : List Entry) → Type 0
HasFolders folders paths components extensions prefixes ends =
    MatchOption folders (HasOthers components extensions ends) (λ texts. (HasOthers components extensions ends → ⊥) × AreFolders texts paths prefixes)

-- the tries look at the sides that they are for, and there are folders
pub record AreParts (paths components extensions : List Entry) (prefixes ends : Texts) (folders : Option (List (List ℕ))) : Type 0 where
  pub at_beginning : prefixes.anchor ≡ Start
  pub at_end : ends.anchor ≡ End
  pub has_folders : HasFolders folders paths components extensions prefixes.entries ends.entries
