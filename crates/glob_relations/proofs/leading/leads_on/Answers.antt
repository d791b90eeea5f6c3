use Rattle.std.proofs.Common.{subst}
use Rattle.glob_relations.specs.inner.Leading.{LeadsOn}
use Rattle.byte_nfa.proofs.lemmas.Listing.{in_contains}
use Rattle.glob_relations.proofs.leading.leads_on.Goals as goal

pub returns-in-Some-Union : goal.returns-in-Some-Union
returns-in-Some-Union c = λ on.
    let found = rw c.in-Some-Union.is at c.state.ensures.read in
    let read = rw c.in-Some-Union.field-0-is at found in
    let (t, at, h) = subst (LeadsOn c.args.index c.args.marks.now) read on in
    c.has_leading.ensures t (in_contains t c.in-Some-Union.states.now at) h
