use Rattle.std.proofs.Common.{◌≡◌, take}
use Rattle.set_matcher.specs.inner.Automata.{max_size}
use Rattle.set_matcher.proofs.automata.matchers.ExtensionMatchers.max_states.Given as goal

abbrev pub invariant-loop-automaton : goal.invariant-loop-automaton
invariant-loop-automaton l = l.maximum ≡ max_size (take l.automaton-index l.self.nfas)
