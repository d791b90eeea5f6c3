-- Keys: bytes that a path or a part of it is compared with.
use Rattle.std.specs.Prelude.{◌≡◌, ℕ, ◌⊎◌, ⊤, List, ◌∷◌, ◌++◌}
use Rattle.glob_path.specs.Below.{BeginsWith, folder_start}
use Rattle.glob_path.specs.PathParts.{last_component, component_extension}
use Rattle.glob_path.specs.declared.key.Key.{Key}
use Rattle.glob_path.specs.declared.key.Key.TheVariants as held

-- A key is bytes, with the part of a path that they are compared with.
pub data KeyValue : Type 0 where
  -- the path
  Literal : List ℕ → KeyValue
  -- the path's last component
  BasenameLiteral : List ℕ → KeyValue
  -- the extension of the path's last component
  Extension : List ℕ → KeyValue
  -- the last components of the path, of the number that the key has
  ComponentSuffix : List ℕ → KeyValue
  -- the end of the path
  Suffix : List ℕ → KeyValue
  -- the beginning of the path
  Prefix : List ℕ → KeyValue

-- a key of the program
abbrev pub key_seen : Key → KeyValue
key_seen (held.Literal bytes) = Literal bytes.items
key_seen (held.BasenameLiteral bytes) = BasenameLiteral bytes.items
key_seen (held.Extension bytes) = Extension bytes.items
key_seen (held.ComponentSuffix bytes) = ComponentSuffix bytes.items
key_seen (held.Suffix bytes) = Suffix bytes.items
key_seen (held.Prefix bytes) = Prefix bytes.items

-- the bytes of a key
abbrev pub key_bytes : KeyValue → List ℕ
key_bytes (Literal bytes) = bytes
key_bytes (BasenameLiteral bytes) = bytes
key_bytes (Extension bytes) = bytes
key_bytes (ComponentSuffix bytes) = bytes
key_bytes (Suffix bytes) = bytes
key_bytes (Prefix bytes) = bytes

-- The key matches the path.
abbrev pub KeyMatches : KeyValue → List ℕ → Type 0
-- the path is the key
KeyMatches (Literal bytes) path = path ≡ bytes
-- the path's last component is the key, also if it is `..`
KeyMatches (BasenameLiteral bytes) path = last_component path ≡ bytes
-- the key is the extension of the path's last component
KeyMatches (Extension bytes) path = component_extension path ≡ bytes
-- the path is the key, or ends with `/` and the key
KeyMatches (ComponentSuffix bytes) path = (path ≡ bytes) ⊎ ((front : List ℕ) × (front ++ 47 ∷ bytes ≡ path))
-- the path ends with the key
KeyMatches (Suffix bytes) path = (front : List ℕ) × (front ++ bytes ≡ path)
-- the path begins with the key
KeyMatches (Prefix bytes) path = (rest : List ℕ) × (bytes ++ rest ≡ path)

-- Some path below the folder may match the key. A path below a folder may have any last component, any extension and any end, so
-- the folder excludes only keys that are a path or the beginning of a path.
abbrev pub KeyMayMatchBelow : KeyValue → List ℕ → Type 0
-- the key is below the folder
KeyMayMatchBelow (Literal bytes) folder = BeginsWith bytes (folder_start folder)
KeyMayMatchBelow (BasenameLiteral bytes) folder = ⊤
KeyMayMatchBelow (Extension bytes) folder = ⊤
KeyMayMatchBelow (ComponentSuffix bytes) folder = ⊤
KeyMayMatchBelow (Suffix bytes) folder = ⊤
-- the key is below the folder, or every path below the folder begins with the key
KeyMayMatchBelow (Prefix bytes) folder = BeginsWith bytes (folder_start folder) ⊎ BeginsWith (folder_start folder) bytes
