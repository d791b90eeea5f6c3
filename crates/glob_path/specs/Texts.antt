-- Which indexes a trie finds for a path.
use Rattle.std.specs.Prelude.{ℕ, List, [], ◌∷◌, ◌++◌, map}
use Rattle.std.specs.List.{flat_map}
use Rattle.glob_path.specs.Entries.{Entry, entry, indexes_under}
use Rattle.glob_path.specs.declared.trie.Anchor.{Anchor}
use Rattle.glob_path.specs.declared.trie.Anchor.TheVariants.{Start, End}
use Rattle.glob_path.specs.declared.trie.Text.{Text}

-- the value of a trie: its texts with their indexes, and where in a path they are looked for
pub record Texts : Type 0 where
  pub anchor : Anchor
  pub entries : List Entry

-- the text and its index
abbrev pub entry_of : Text → Entry
entry_of t = entry t.bytes.items t.index

-- every beginning of a path, the shortest first
abbrev pub prefixes : List ℕ → List (List ℕ)
prefixes [] = [] ∷ []
prefixes (b ∷ p) = [] ∷ map (λ x. b ∷ x) (prefixes p)

-- every end of a path, the shortest first
abbrev pub suffixes : List ℕ → List (List ℕ)
suffixes [] = [] ∷ []
suffixes (b ∷ p) = suffixes p ++ (b ∷ p) ∷ []

-- every beginning, or every end
abbrev pub parts : Anchor → List ℕ → List (List ℕ)
parts Start p = prefixes p
parts End p = suffixes p

-- the indexes of the texts that a path begins or ends with: shorter texts first, and the indexes of a text in their order
abbrev pub found : Texts → List ℕ → List ℕ
found t p = flat_map (indexes_under t.entries) (parts t.anchor p)
