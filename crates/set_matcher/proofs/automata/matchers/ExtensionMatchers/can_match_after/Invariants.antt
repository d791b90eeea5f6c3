use Rattle.std.proofs.Common.{◌≡◌, ◌++◌, ◌∷◌, [], ◌+◌, ◌*◌, ◌<◌, ◌≤◌, ℕ, get_or, length, take}
use Rattle.byte_nfa.specs.Live.{MatchesAfter}
use Rattle.engine.specs.Memory.{FitsAsBefore}
use Rattle.set_matcher.specs.inner.Automata.{no_nfa, total_reads}
use Rattle.set_matcher.proofs.automata.matchers.ExtensionMatchers.can_match_after.Given as goal

abbrev pub invariant-loop-slot : goal.invariant-loop-slot
invariant-loop-slot l = record {
  none : (s : ℕ) → s < l.slot → MatchesAfter (get_or l.self.nfas s (no_nfa 0)) (l.text ++ l.byte ∷ []) → ⊥;
  kept : FitsAsBefore l.fn.memory l.memory;
  visits : l.visits ≤ l.fn.visits + (length l.text + 2) * total_reads (take l.slot l.self.nfas);
  counted : l.fn.visits ≤ l.visits;
}
