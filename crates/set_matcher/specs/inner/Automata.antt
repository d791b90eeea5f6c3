-- Automata of tokens, for the globs that no key decides.
use Rattle.std.specs.Prelude.{◌≡◌, ◌≢◌, ◌⊎◌, ◌↔◌, ℕ, ◌+◌, ◌-◌, ◌<◌, ◌≤◌, max, Bool, IsTrue, List, [], ◌∷◌, ◌++◌, Option, Some, cond, length, get_or, slice_get, sum_by, take}
use Rattle.std.specs.Global.{Box}
use Rattle.std.specs.Option.{option_map_or}
use Rattle.std.specs.Str.{bytes_eq}
use Rattle.byte_nfa.specs.Live.{MatchesAfter}
use Rattle.byte_nfa.specs.Steps.{HasNumber, NfaValue}
use Rattle.byte_nfa.specs.Runs.{size, max_reads}
use Rattle.bit_sets.specs.Indexes.{has_index, index_capacity}
use Rattle.bit_sets.specs.declared.index_set.IndexSet.{IndexSet}
use Rattle.glob_path.specs.Entries.{Entry, indexes_under}
use Rattle.glob_syntax.specs.After.{MeanAfter}
use Rattle.glob_strategy.specs.IndexedTokens.{SomeMeanAfter}
use Rattle.glob_strategy.specs.IndexedTokens.{IndexedTokens, SomeMatches, IsFor}
use Rattle.glob_path.specs.Below.{folder_start}
use Rattle.glob_path.specs.PathParts.{last_component, component_extension}

-- ---- automata for globs that match only paths with a given extension

-- the first of some indexes
abbrev pub first : List ℕ → Option ℕ
first indexes = slice_get indexes 0

-- for each such extension its slot, which is the position of an automaton
pub record ExtensionParts : Type 0 where
  pub slots : List Entry
  pub nfas : List NfaValue
  pub index_count : ℕ

-- the slot of an extension, if any
abbrev pub slot_of : List Entry → List ℕ → Option ℕ
slot_of slots extension = first (indexes_under slots extension)

-- the invariants of such a value's parts
pub record AreExtensionMatchers (slots : List Entry) (nfas : List NfaValue) (n : ℕ) : Type 0 where
  -- each slot is a position of an automaton
  pub held : (extension : List ℕ) (s : ℕ) → HasNumber s (indexes_under slots extension) → s < length nfas
  -- no two extensions have the same slot
  pub apart : (a b : List ℕ) (s : ℕ) → slot_of slots a ≡ Some s → slot_of slots b ≡ Some s → a ≡ b
  -- each automaton names indexes below n
  pub counted : (s : ℕ) (d : NfaValue) → s < length nfas → (get_or nfas s d).index_count ≡ n

-- each automaton is for the tokens of its slot
abbrev pub AreFor : List NfaValue → (ℕ → List IndexedTokens) → Type 0
AreFor nfas tokens = (s : ℕ) (d : NfaValue) → s < length nfas → IsFor (get_or nfas s d) (tokens s)

-- the tokens of an extension, or none if it has no slot
abbrev pub tokens_under : (ℕ → List IndexedTokens) → List Entry → List ℕ → List IndexedTokens
tokens_under tokens slots extension = option_map_or tokens (slot_of slots extension) []

-- an automaton without states, whose indexes would be below n
abbrev pub no_nfa : ℕ → NfaValue
no_nfa n = record { states = []; starts = []; index_count = n }

-- the automaton of a slot, or an automaton without states
abbrev pub nfa_at : List NfaValue → Option ℕ → NfaValue
nfa_at nfas slot = option_map_or (λ s. get_or nfas s (no_nfa 0)) slot (no_nfa 0)

-- the automaton of an extension; an automaton without states if it has no slot
abbrev pub nfa_under : ExtensionParts → List ℕ → NfaValue
nfa_under e extension = nfa_at e.nfas (slot_of e.slots extension)

-- the tokens of some slot below n match some text that begins with y
abbrev pub SomeExtensionAfter : ℕ → (ℕ → List IndexedTokens) → List ℕ → Type 0
SomeExtensionAfter n tokens y = (s : ℕ) × (s < n) × SomeMeanAfter (tokens s) y

-- the most reads of all automata at a position of a text
abbrev pub total_reads : List NfaValue → ℕ
total_reads nfas = sum_by max_reads nfas

-- each extension has the tokens that it had, and no slot has others
pub record KeepsTokens (old : ExtensionParts) (before : ℕ → List IndexedTokens) (new : ExtensionParts) : Type 0 where
  pub tokens : ℕ → List IndexedTokens
  pub are_for : AreFor new.nfas tokens
  pub same : (extension : List ℕ) → tokens_under tokens new.slots extension ≡ tokens_under before old.slots extension
  pub after : (y : List ℕ) → SomeExtensionAfter (length new.nfas) tokens y ↔ SomeExtensionAfter (length old.nfas) before y

-- an extension has these tokens in addition, and the others keep theirs; the same holds for all slots together
pub record AddsTokens (old : ExtensionParts) (before : ℕ → List IndexedTokens) (new : ExtensionParts) (key : List ℕ) (x : IndexedTokens) : Type 0 where
  pub tokens : ℕ → List IndexedTokens
  pub are_for : AreFor new.nfas tokens
  pub added : (extension : List ℕ) → (extension ≡ key) → tokens_under tokens new.slots extension ≡ tokens_under before old.slots extension ++ x ∷ []
  pub others : (extension : List ℕ) → (extension ≢ key) → tokens_under tokens new.slots extension ≡ tokens_under before old.slots extension
  pub after : (y : List ℕ) → SomeExtensionAfter (length new.nfas) tokens y ↔ (SomeExtensionAfter (length old.nfas) before y ⊎ MeanAfter x.options x.tokens y)

-- the same for any tokens of the automata
abbrev pub AddsTokensTo : ExtensionParts → ExtensionParts → List ℕ → IndexedTokens → Type 0
AddsTokensTo old new key x = (before : ℕ → List IndexedTokens) → AreFor old.nfas before → AddsTokens old before new key x

-- the automaton of an extension may have this number of reads more, and the others no more than before
abbrev pub AddsReads : ExtensionParts → ExtensionParts → List ℕ → ℕ → Type 0
AddsReads old new key n = (extension : List ℕ) → max_reads (nfa_under new extension) ≤ max_reads (nfa_under old extension) + cond (bytes_eq key extension) n 0

-- some text that begins with y leads to an end of the automaton of some slot
abbrev pub SomeLeadsAfter : List NfaValue → List ℕ → Type 0
SomeLeadsAfter nfas y = (s : ℕ) × (s < length nfas) × MatchesAfter (get_or nfas s (no_nfa 0)) y

-- ---- all of them

-- automata that are run on the whole path, on its last component, and before its extension
pub record AutomataParts : Type 0 where
  pub by_path : NfaValue
  pub by_component : NfaValue
  pub extensions : ExtensionParts

-- the number of states of the largest of some automata
abbrev pub max_size : List NfaValue → ℕ
max_size [] = 0
max_size (m ∷ ms) = max (size m) (max_size ms)

-- the number of states of the largest of all of them
abbrev pub max_states : AutomataParts → ℕ
max_states a = max (max (size a.by_path) (size a.by_component)) (max_size a.extensions.nfas)

-- the number that each index is below is the same for all of them
pub record HaveOneCount (by_path by_component : NfaValue) (extensions : ExtensionParts) : Type 0 where
  pub of_path : by_path.index_count ≡ extensions.index_count
  pub of_component : by_component.index_count ≡ extensions.index_count

-- and the number of states of the largest of them, and whether some text leads to an end of the automaton for last components
pub record AreMeasured (by_path by_component : NfaValue) (extensions : ExtensionParts) (maximum : ℕ) (has_component : Bool) : Type 0 where
  pub counts : HaveOneCount by_path by_component extensions
  pub largest : maximum ≡ max_states (record { by_path = by_path; by_component = by_component; extensions = extensions })
  pub component : IsTrue has_component ↔ MatchesAfter by_component []

-- the tokens that automata are for
pub record TokenLists : Type 0 where
  pub by_path : List IndexedTokens
  pub by_component : List IndexedTokens
  pub by_slot : ℕ → List IndexedTokens

-- the automata are for these tokens
pub record AreForLists (a : AutomataParts) (t : TokenLists) : Type 0 where
  pub path : IsFor a.by_path t.by_path
  pub component : IsFor a.by_component t.by_component
  pub matchers : AreFor a.extensions.nfas t.by_slot

-- the bytes of a path before the extension of its last component
abbrev pub before_extension : List ℕ → List ℕ
before_extension path = take (length path - length (component_extension path)) path

-- tokens of the index k match the part of the path that they are run on
abbrev pub AreFound : List Entry → TokenLists → List ℕ → ℕ → Type 0
AreFound slots t path k =
    SomeMatches t.by_path path k ⊎ (SomeMatches t.by_component (last_component path) k ⊎ SomeMatches (tokens_under t.by_slot slots (component_extension path)) (before_extension path) k)

-- Tokens match their part of some path below the folder. The last component may be any text, with every folder. The extension may
-- be any text, too; before it the path still has the folder and its `/`.
abbrev pub AreFoundBelow : ExtensionParts → TokenLists → List ℕ → Type 0
AreFoundBelow e t folder = SomeMeanAfter t.by_component [] ⊎ (SomeMeanAfter t.by_path (folder_start folder) ⊎ SomeExtensionAfter (length e.nfas) t.by_slot (folder_start folder))

-- the states that are run for a path
abbrev pub states_for : AutomataParts → List ℕ → ℕ
states_for a path = size a.by_path + (size a.by_component + size (nfa_under a.extensions (component_extension path)))

-- the most reads at a position of a path
abbrev pub reads_for : AutomataParts → List ℕ → ℕ
reads_for a path = max_reads a.by_path + (max_reads a.by_component + max_reads (nfa_under a.extensions (component_extension path)))

-- the most reads at a position of a folder
abbrev pub folder_reads : AutomataParts → ℕ
folder_reads a = max_reads a.by_path + total_reads a.extensions.nfas

-- No state is run for a path, and nothing is found.
pub record AreIdle (a : AutomataParts) (path : List ℕ) : Type 0 where
  pub size : states_for a path ≡ 0
  pub none : (t : TokenLists) → AreForLists a t → (k : ℕ) → AreFound a.extensions.slots t path k → ⊥

-- Some state is run for a path. The set has the indexes that are found, and room for every index.
pub record IsFoundSet (a : AutomataParts) (path : List ℕ) (found : IndexSet) : Type 0 where
  pub size : 1 ≤ states_for a path
  pub room : a.extensions.index_count ≤ index_capacity found
  pub same : (t : TokenLists) → AreForLists a t → (k : ℕ) → IsTrue (has_index found k) ↔ AreFound a.extensions.slots t path k

-- ---- where no glob needs an automaton

-- Where no glob needs an automaton, none is made, and contracts see these: they have no states, and no extension has a slot. The
-- number that each index is below is n.
abbrev pub no_automata : ℕ → AutomataParts
no_automata n = record {
  by_path = no_nfa n;
  by_component = no_nfa n;
  extensions = record { slots = []; nfas = []; index_count = n };
}

-- the automata, or those without states if none are made
abbrev pub automata_or_none : ℕ → Option (Box AutomataParts) → AutomataParts
automata_or_none n automata = option_map_or (λ b. b.value) automata (no_automata n)
