use Rattle.std.proofs.Common.{◌-◌}
use Rattle.byte_nfa.specs.Steps.{NfaValue}
use Rattle.glob_relations.specs.inner.Rows.{AreAlike, AreBoundaries}
use Rattle.glob_relations.proofs.classes.representative.Given as goal

abbrev pub invariant-loop-first : goal.invariant-loop-first
invariant-loop-first l = (m : NfaValue) → AreBoundaries m l.boundaries → AreAlike m l.byte l.first

abbrev pub decreases-loop-first : goal.decreases-loop-first
decreases-loop-first l = 255 - l.byte
