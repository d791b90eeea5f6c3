-- Which keys a path below a folder may find.
use Rattle.std.specs.Prelude.{◌≢◌, ℕ, ◌↔◌, ◌⊎◌, List, [], Contains}
use Rattle.glob_path.specs.Entries.{Entry, entry}
use Rattle.glob_path.specs.Below.{BeginsWith, folder_start}
use Rattle.set_matcher.specs.inner.LiteralIndex.{KeyParts}

-- some entry of the list has a key that P holds of
abbrev pub HasKey : (List ℕ → Type 0) → List Entry → Type 0
HasKey P entries = (key : List ℕ) × (i : ℕ) × Contains entries (entry key i) × P key

-- Some path below the folder may find a key. That is so for every folder if there is a key for last components, for extensions or
-- for ends of paths. It is also so if a whole path or a beginning is below the folder, or if each path below the folder begins
-- with a beginning.
pub data MatchesBelow (k : KeyParts) (folder : List ℕ) : Type 0 where
  by_component : k.components ≢ [] → MatchesBelow k folder
  by_extension : k.extensions ≢ [] → MatchesBelow k folder
  by_end : k.ends ≢ [] → MatchesBelow k folder
  by_path : HasKey (λ key. BeginsWith key (folder_start folder)) k.paths → MatchesBelow k folder
  by_prefix : HasKey (λ key. BeginsWith key (folder_start folder)) k.prefixes → MatchesBelow k folder
  by_shorter_beginning : HasKey (λ key. BeginsWith (folder_start folder) key) k.prefixes → MatchesBelow k folder

-- For each folder: some path below it may find a key among the new keys exactly if some path may find a key among the old keys,
-- or if P holds of the folder.
abbrev pub BelowMore : KeyParts → KeyParts → (List ℕ → Type 0) → Type 0
BelowMore old new P = (folder : List ℕ) → MatchesBelow new folder ↔ (MatchesBelow old folder ⊎ P folder)
