-- Indexes under keys, and which of them a path finds.
use Rattle.std.specs.Prelude.{◌≡◌, ℕ, ◌+◌, ◌≤◌, ◌↔◌, ◌⊎◌, Bool, cond, IsTrue, List, length, [], ◌∷◌, ◌++◌, Contains}
use Rattle.glob_path.specs.Entries.{Entry, entry, indexes_under}
use Rattle.glob_path.specs.declared.trie.Anchor.{Anchor}
use Rattle.glob_path.specs.declared.trie.Anchor.TheVariants.{Start, End}
use Rattle.glob_path.specs.Texts.{Texts, found}
use Rattle.glob_path.specs.Key.{KeyValue}
use Rattle.glob_path.specs.Key as path_key
use Rattle.glob_path.specs.PathParts.{last_component, component_extension}

-- indexes under whole paths, last components, extensions of these, and texts that paths begin or end with
pub record KeyParts : Type 0 where
  pub paths : List Entry
  pub components : List Entry
  pub extensions : List Entry
  pub prefixes : List Entry
  pub ends : List Entry

-- texts that are looked for at a side of a path
abbrev pub texts_at : Anchor → List Entry → Texts
texts_at anchor entries = record { anchor = anchor; entries = entries }

-- the indexes that are found for a path
abbrev pub keys_found : KeyParts → List ℕ → List ℕ
keys_found t path = indexes_under t.paths path
    ++ (indexes_under t.components (last_component path)
    ++ (indexes_under t.extensions (component_extension path)
    ++ (found (texts_at Start t.prefixes) path ++ found (texts_at End t.ends) path)))

-- ---- another key

-- no key of any kind
abbrev pub no_keys : KeyParts
no_keys = record {
  paths = [];
  components = [];
  extensions = [];
  prefixes = [];
  ends = [];
}

-- the index under the key as a whole path, behind those that are there
abbrev pub with_path : KeyParts → List ℕ → ℕ → KeyParts
with_path t key n = record t { paths = t.paths ++ entry key n ∷ [] }

-- likewise, under the key as a last component
abbrev pub with_component : KeyParts → List ℕ → ℕ → KeyParts
with_component t key n = record t { components = t.components ++ entry key n ∷ [] }

-- as an extension
abbrev pub with_extension : KeyParts → List ℕ → ℕ → KeyParts
with_extension t key n = record t { extensions = t.extensions ++ entry key n ∷ [] }

-- as the beginning of paths
abbrev pub with_beginning : KeyParts → List ℕ → ℕ → KeyParts
with_beginning t key n = record t { prefixes = t.prefixes ++ entry key n ∷ [] }

-- as the end of paths
abbrev pub with_end : KeyParts → List ℕ → ℕ → KeyParts
with_end t key n = record t { ends = t.ends ++ entry key n ∷ [] }

-- a `/`, and the key after it
abbrev pub after_separator : List ℕ → List ℕ
after_separator key = 47 ∷ key

-- the key as a path, and as the last components of a longer path
abbrev pub with_components : KeyParts → List ℕ → ℕ → KeyParts
with_components t key n = with_end (with_path t key n) (after_separator key) n

-- another index under a key
abbrev pub with_key : KeyParts → KeyValue → ℕ → KeyParts
with_key t (path_key.Literal bytes) n = with_path t bytes n
with_key t (path_key.BasenameLiteral bytes) n = with_component t bytes n
with_key t (path_key.Extension bytes) n = with_extension t bytes n
with_key t (path_key.ComponentSuffix bytes) n = with_components t bytes n
with_key t (path_key.Suffix bytes) n = with_end t bytes n
with_key t (path_key.Prefix bytes) n = with_beginning t bytes n

-- The new list has n in addition if `more` is true, and is then longer by at most 1. Otherwise it has the same indexes, and is
-- not longer.
pub record MoreIn (old new : List ℕ) (n : ℕ) (more : Bool) : Type 0 where
  pub has : (k : ℕ) → Contains new k ↔ (Contains old k ⊎ ((n ≡ k) × IsTrue more))
  pub count : length new ≤ length old + cond more 1 0

-- For the paths that the test `IsSo` holds of, the new keys find n in addition, and at most 1 index more than the old keys. For
-- all others they find the same indexes, and no more of them.
abbrev pub FindsMore : KeyParts → KeyParts → ℕ → (List ℕ → Type 0) → Type 0
FindsMore old new n IsSo = (path : List ℕ) (more : Bool) → (IsTrue more ↔ IsSo path) → MoreIn (keys_found old path) (keys_found new path) n more
