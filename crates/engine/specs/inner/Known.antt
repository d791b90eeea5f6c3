-- Lists that a state was made for.
use Rattle.std.specs.Prelude.{◌≡◌, ℕ, ◌⊎◌, List, [], ◌∷◌, Some, None, slice_index_or, nat_eq}
use Rattle.std.specs.Cmp.Lexicographic.{pointwise}
use Rattle.std.specs.HashMap.{get_by}
use Rattle.byte_nfa.specs.Steps.{NfaValue}
use Rattle.engine.specs.declared.sharing.KnownLists.{KnownLists}
use Rattle.engine.specs.inner.Lists.{IsStateFor}

-- the lists have the state u for the list l
unfoldable pub IsKnown : KnownLists → List ℕ → ℕ → Type 0
IsKnown lists l u = ((s : ℕ) × (l ≡ s ∷ []) × (slice_index_or lists.singles.items s None ≡ Some u)) ⊎ (get_by (λ k. pointwise nat_eq l k.items) lists.others ≡ Some u)

-- the invariant of an automaton while its states are made: the state of a known list stands for it
pub record IsSharing (old new : NfaValue) (lists : KnownLists) : Type 0 where
  pub known : (l : List ℕ) (u : ℕ) → IsKnown lists l u → IsStateFor old new l u
  pub starts : new.starts ≡ []
  pub index_count : new.index_count ≡ old.index_count
