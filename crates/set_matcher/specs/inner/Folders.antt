-- The folders of keys: their contents, and the position of a text among them.
use Rattle.std.specs.Prelude.{ℕ, ◌-◌, ◌↔◌, ◌⊎◌, List, [], ◌∷◌, map, length, take, Contains}
use Rattle.std.proofs.Common.{Vec}
use Rattle.std.specs.List.Sorted.{IsStrictlySortedBy}
use Rattle.std.specs.Cmp.Lexicographic.{slice_cmp}
use Rattle.std.specs.Ordering.{nat_cmp, ordering_then}
use Rattle.std.specs.declared.cmp.Ordering.{Ordering}
use Rattle.std.specs.declared.cmp.Ordering.TheVariants.{Less, Equal}
use denote.Ref.{Bor}
use Rattle.glob_path.specs.Entries.{Entry}
use Rattle.glob_path.specs.Below.{BeginsWith, folder_start}
use Rattle.glob_path.specs.PathParts.{last_component}
use Rattle.set_matcher.specs.inner.KeysBelow.{HasKey}

-- the key is below the folder
abbrev pub IsBelow : List ℕ → List ℕ → Type 0
IsBelow f key = BeginsWith key (folder_start f)

-- a key up to its last `/`: the key without its last component
abbrev pub start_of : List ℕ → List ℕ
start_of key = take (length key - length (last_component key)) key

-- some text of the list is below the folder
abbrev pub SomeBelow : List (List ℕ) → List ℕ → Type 0
SomeBelow texts f = (text : List ℕ) × Contains texts text × IsBelow f text

-- the texts are below the folders that some path or some beginning is below, and below no others
pub record AreFolders (texts : List (List ℕ)) (paths prefixes : List Entry) : Type 0 where
  pub tells : (f : List ℕ) → SomeBelow texts f ↔ (HasKey (IsBelow f) paths ⊎ HasKey (IsBelow f) prefixes)

-- some text is below the folders that some key is below, and below no others
abbrev pub HaveFolders : List (List ℕ) → List Entry → Type 0
HaveFolders texts keys = (f : List ℕ) → SomeBelow texts f ↔ HasKey (IsBelow f) keys

-- some new text is below the folders that some old text or the key is below, and below no others
abbrev pub AddsFolder : List (List ℕ) → List (List ℕ) → List ℕ → Type 0
AddsFolder old new key = (f : List ℕ) → SomeBelow new f ↔ (SomeBelow old f ⊎ IsBelow f key)

-- the bytes of vectors and of slices
abbrev pub bytes_of : {X : Type 0} → List (Vec ℕ X) → List (List ℕ)
bytes_of texts = map (λ t. t.items) texts

abbrev pub shown_of : List (Bor (List ℕ)) → List (List ℕ)
shown_of texts = map (λ t. t.now) texts

-- each text is before the next in the order of bytes
abbrev pub AreRising : List (List ℕ) → Type 0
AreRising texts = IsStrictlySortedBy (slice_cmp nat_cmp) texts

-- where a text is in that order: before all texts that begin with `start`, among them, or after them
abbrev pub place_of : List ℕ → List ℕ → Ordering
place_of text [] = Equal
place_of [] (s ∷ start) = Less
place_of (b ∷ text) (s ∷ start) = ordering_then (nat_cmp b s) (place_of text start)
