-- A consequence of the definition of a trie's result. The law is the contract of a function of the module `laws`.
use Rattle.std.specs.Prelude.{◌≡◌, ℕ, ◌↔◌, List, ◌++◌, Contains}
use Rattle.glob_path.specs.Entries.{entry}
use Rattle.glob_path.specs.declared.trie.Anchor.{Anchor}
use Rattle.glob_path.specs.declared.trie.Anchor.TheVariants.{Start, End}
use Rattle.glob_path.specs.Texts.{Texts, found}

-- the path begins, or ends, with the text
abbrev pub IsAt : Anchor → List ℕ → List ℕ → Type 0
IsAt Start p text = (rest : List ℕ) × (text ++ rest ≡ p)
IsAt End p text = (front : List ℕ) × (front ++ text ≡ p)

-- an index is found for a path exactly if the path begins, or ends, with a text of that index
abbrev pub FindsExactly : Type 0
FindsExactly = (t : Texts) (p : List ℕ) (i : ℕ) → Contains (found t p) i ↔ ((text : List ℕ) × Contains t.entries (entry text i) × IsAt t.anchor p text)
