use Rattle.std.proofs.Common.{◌-◌, ◌<◌, length, drop}
use Rattle.byte_nfa.specs.Runs.{size}
use Rattle.ignore_pattern.specs.Elements.{elements_match}
use Rattle.byte_nfa.specs.Building.{Grows}
use Rattle.byte_nfa.specs.Leading.{Builds}
use Rattle.ignore_pattern.specs.inner.Views.{elements_of}
use Rattle.ignore_pattern.proofs.states.push_elements.Given as goal

abbrev pub invariant-loop-i : goal.invariant-loop-i
invariant-loop-i l = record {
  within : l.at < size l.builder;
  grows : Grows l.fn.builder l.builder;
  builds : Builds (elements_match l.ignore_case (elements_of (drop (length l.elements - l.i) l.elements))) l.fn.builder.states l.builder.states l.at l.exit;
}
