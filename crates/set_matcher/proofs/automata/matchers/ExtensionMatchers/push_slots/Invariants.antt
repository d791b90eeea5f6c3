use Rattle.std.proofs.Common.{◌≡◌, ◌+◌}
use Rattle.std.specs.Prelude.{length}
use Rattle.set_matcher.specs.inner.Automata.{AutomataParts}
use Rattle.set_matcher.specs.inner.Memory.{FitsAll}
use Rattle.set_matcher.proofs.automata.matchers.ExtensionMatchers.push_slots.Given as goal

abbrev pub invariant-loop-automaton : goal.invariant-loop-automaton
invariant-loop-automaton l = record {
  len : length l.memory.caches ≡ l.automaton-index + 2;
  fits : (a : AutomataParts) → a.extensions.nfas ≡ l.self.nfas → FitsAll a l.fn.memory → FitsAll a l.memory;
}
