use Rattle.std.proofs.Common.{ℕ, ◌≤◌, drop}
use Rattle.std.specs.Prelude.{◌↔◌}
use Rattle.bit_sets.specs.StateSets.{state_capacity}
use Rattle.byte_nfa.specs.Runs.{size, AcceptsFrom}
use Rattle.byte_nfa.specs.Steps.{IsReached}
use Rattle.glob_relations.proofs.finding.found_indexes.Given as goal

abbrev pub invariant-loop-byte : goal.invariant-loop-byte
invariant-loop-byte l = record {
  from : size l.automaton ≤ state_capacity l.from;
  to : size l.automaton ≤ state_capacity l.to;
  reached : (k : ℕ) → AcceptsFrom l.automaton l.from (drop l.byte-index l.path) k ↔ IsReached l.automaton l.path k;
}
