use Rattle.ignore_pattern.specs.inner.Views.{elements_of}
use Rattle.ignore_pattern.proofs.lemmas.Inside.{inside_with}
use Rattle.ignore_pattern.proofs.reading.pattern_with.Goals as goal

pub new-requires : goal.new-requires
new-requires c = inside_with c.args.whole c.args.bytes.now (elements_of c.in-Some.elements.items) c.requires (rw c.in-Some.is at c.in_ok-elements.ensures)
