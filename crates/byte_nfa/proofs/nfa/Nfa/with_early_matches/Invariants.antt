use Rattle.std.proofs.Common.{◌≡◌, ℕ, ◌<◌, ◌*◌, [], length}
use Rattle.byte_nfa.specs.Steps.{state}
use Rattle.byte_nfa.specs.EarlyMatches.{IsAtEarlyMatch}
use Rattle.byte_nfa.specs.inner.Views.{of_states, AreSound}
use Rattle.byte_nfa.proofs.nfa.Nfa.with_early_matches.Given as goal

abbrev pub invariant-loop-s : goal.invariant-loop-s
invariant-loop-s l =
    let sets = l.self-inside.sets.items in
    let targets = l.self-inside.targets.items in
    record {
      len : length l.states.items ≡ l.s;
      sound : AreSound sets targets l.states.items [] (l.self.index_count * 2);
      states : (s : ℕ) → s < l.s → IsAtEarlyMatch l.self.states l.self.index_count s (state (of_states sets targets l.states.items) s);
    }
