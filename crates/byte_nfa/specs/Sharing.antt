-- Automata where texts that begin alike share states.
use Rattle.std.specs.Prelude.{◌≡◌, ℕ, ◌≤◌, ◌↔◌, List, length}
use Rattle.byte_nfa.specs.Runs.{size}
use Rattle.byte_nfa.specs.Steps.{NfaValue, IsReached}

-- the new automaton leads each text to the same ends as the old automaton, and has no more states and no more starts
pub record Shares (old new : NfaValue) : Type 0 where
  pub reached : (y : List ℕ) (k : ℕ) → IsReached new y k ↔ IsReached old y k
  pub index_count : new.index_count ≡ old.index_count
  pub states : size new ≤ size old
  pub starts : length new.starts ≤ length old.starts
