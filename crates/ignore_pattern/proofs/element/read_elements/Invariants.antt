use Rattle.std.proofs.Common.{◌≡◌, zero, length}
use Rattle.ignore_pattern.specs.Elements.{elements}
use Rattle.ignore_pattern.specs.declared.place.Place.TheVariants.{Start}
use Rattle.ignore_pattern.specs.inner.Views.{elements_of}
use Rattle.ignore_pattern.proofs.lemmas.Reading.{before}
use Rattle.ignore_pattern.proofs.element.read_elements.Given as goal

abbrev pub invariant-loop-rest : goal.invariant-loop-rest
invariant-loop-rest l = before (elements_of l.elements.items) (elements l.whole l.place zero l.rest) ≡ elements l.whole Start zero l.bytes

abbrev pub decreases-loop-rest : goal.decreases-loop-rest
decreases-loop-rest l = length l.rest
