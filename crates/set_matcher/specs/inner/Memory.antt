-- The memory that the automata of a matcher are run in.
use Rattle.std.specs.Prelude.{ℕ, ◌+◌, List, ◌∷◌, get_or}
use Rattle.byte_nfa.specs.Steps.{NfaValue}
use Rattle.engine.specs.Memory.{Fits, MemoryValue}
use Rattle.set_matcher.specs.inner.Automata.{AutomataParts, no_nfa}

-- the automata in the order of their slots: those of whole paths and of last components, and then those of extensions
abbrev pub in_slots : AutomataParts → List NfaValue
in_slots a = a.by_path ∷ a.by_component ∷ a.extensions.nfas

-- the memory fits each automaton by its slot
abbrev pub FitsAll : AutomataParts → MemoryValue → Type 0
FitsAll a memory = (slot : ℕ) → Fits memory slot (get_or (in_slots a) slot (no_nfa 0))

-- the same of the automata of extensions
abbrev pub FitsExtensions : List NfaValue → MemoryValue → Type 0
FitsExtensions nfas memory = (s : ℕ) → Fits memory (s + 2) (get_or nfas s (no_nfa 0))
