-- Automata that tell which items match a path. Items are globs, or patterns of ignore files; `matches` says which paths one
-- matches. Each has an index in the automaton, and several may have the same.
use Rattle.std.specs.Prelude.{◌≡◌, ℕ, suc, ◌+◌, ◌⊎◌, ◌↔◌, Bool, List, [], ◌∷◌, ◌++◌, length, map, Some, slice_get, IsTrue}
use Rattle.bit_sets.specs.Texts.{AllBytes}
use Rattle.byte_nfa.specs.Building.{Agrees}
use Rattle.byte_nfa.specs.Steps.{State, HasNumber, Accepts, NfaValue, IsReached}

-- some item of the index k matches the path
abbrev pub SomeMatches : {A : Type 0} → (A → List ℕ → Bool) → List (A × ℕ) → List ℕ → ℕ → Type 0
SomeMatches matches [] path k = ⊥
SomeMatches matches (x ∷ xs) path k = ((x.1 ≡ k) × IsTrue (matches x.0 path)) ⊎ SomeMatches matches xs path k

-- From its starts the automaton accepts the paths that the items match, each for its index. So does each automaton with the same
-- starts that begins with these states.
abbrev pub IsFor : {A : Type 0} → (A → List ℕ → Bool) → List (A × ℕ) → NfaValue → Type 0
IsFor matches xs m = (a : List State) → Agrees a m.states 0 (length m.states) → (path : List ℕ) (k : ℕ) → AllBytes path
    → ((s : ℕ) × HasNumber s m.starts × Accepts a k s path) ↔ SomeMatches matches xs path k

-- the items, each under the same index
abbrev pub under : {A : Type 0} → ℕ → List A → List (A × ℕ)
under j xs = map (λ x. (x, j)) xs

-- the items, each under the next index
abbrev pub numbered : {A : Type 0} → ℕ → List A → List (A × ℕ)
numbered n [] = []
numbered n (x ∷ xs) = (x, n) ∷ numbered (suc n) xs

-- an item, its rivals, and all items of the list
abbrev pub indexed_rules : {A : Type 0} → A → List A → List A → List (A × ℕ)
indexed_rules x rivals xs = (x, 0) ∷ under 1 rivals ++ numbered 2 xs

-- the automaton leads a path to the index of an item of the list, counted from `first` on, exactly if this item matches it
abbrev pub FindsFrom : {A : Type 0} → (A → List ℕ → Bool) → ℕ → List A → NfaValue → Type 0
FindsFrom {A} matches first xs m = (k : ℕ) (x : A) (path : List ℕ) → slice_get xs k ≡ Some x → AllBytes path → IsReached m path (first + k) ↔ IsTrue (matches x path)

-- the same where the items are counted from 0 on
abbrev pub FindsEach : {A : Type 0} → (A → List ℕ → Bool) → List A → NfaValue → Type 0
FindsEach {A} matches xs m = (k : ℕ) (x : A) (path : List ℕ) → slice_get xs k ≡ Some x → AllBytes path → IsReached m path k ↔ IsTrue (matches x path)
