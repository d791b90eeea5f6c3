-- The memory of runs as contracts see it.
use Rattle.std.specs.Prelude.{◌≡◌, ℕ, ◌≤◌, List, Option, None, IfSome, slice_index_or}
use Rattle.byte_nfa.specs.Steps.{NfaValue}

-- A memory is seen as the number of states that it has room for, and as a list of slots: each has a cache, seen as the automaton
-- that its rows are of, or none.
pub record MemoryValue : Type 0 where
  pub room : ℕ
  pub caches : List (Option NfaValue)

-- the automaton can be run in the memory, by this slot: the slot has a cache of this automaton, or none
abbrev pub Fits : MemoryValue → ℕ → NfaValue → Type 0
Fits memory slot m = IfSome (slice_index_or memory.caches slot None) (λ c. c ≡ m)

-- the new memory has the caches of the old one and no less room, so it fits each automaton that the old one fits
pub record FitsAsBefore (old new : MemoryValue) : Type 0 where
  pub caches : new.caches ≡ old.caches
  pub room : old.room ≤ new.room
