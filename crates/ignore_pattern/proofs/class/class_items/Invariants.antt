use Rattle.std.proofs.Common.{◌≡◌, ◌==◌, zero, true, None, length}
use Rattle.std.specs.List.{position}
use Rattle.ignore_pattern.specs.Classes.{class_items}
use Rattle.ignore_pattern.proofs.lemmas.Classes.{Reads}
use Rattle.ignore_pattern.proofs.class.class_items.Given as goal

abbrev pub invariant-loop-rest : goal.invariant-loop-rest
invariant-loop-rest l = record {
  reads : Reads l.cs l.items.items l.first l.last l.rest (class_items zero true None l.cs);
  closer : l.closer ≡ position (λ d. d == 93) l.rest;
}

abbrev pub decreases-loop-rest : goal.decreases-loop-rest
decreases-loop-rest l = length l.rest
