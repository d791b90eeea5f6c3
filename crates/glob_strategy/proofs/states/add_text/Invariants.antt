use Rattle.std.proofs.Common.{◌≡◌, ◌+◌, ◌-◌, ◌<◌, length, drop}
use Rattle.byte_nfa.specs.Runs.{size}
use Rattle.glob_strategy.specs.inner.Building.{BuildsText}
use Rattle.byte_nfa.specs.Building.{Grows}
use Rattle.glob_strategy.proofs.states.add_text.Given as goal

abbrev pub invariant-loop-i : goal.invariant-loop-i
invariant-loop-i l = record {
  within : l.at < size l.builder;
  count : size l.builder ≡ size l.fn.builder + l.i;
  grows : Grows l.fn.builder l.builder;
  builds : BuildsText l.options (drop (length l.bytes - l.i) l.bytes) l.fn.builder.states l.builder.states l.at l.exit;
}
