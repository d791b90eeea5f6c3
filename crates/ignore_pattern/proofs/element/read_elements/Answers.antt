use Rattle.std.proofs.Common.{[], ◌∷◌, ◌∙◌, ap, arith}
use Rattle.std.proofs.lemmas.List.{map-append}
use Rattle.ignore_pattern.specs.inner.Views.{element_of, elements_of, at_of}
use Rattle.bit_sets.proofs.lemmas.Cuts.{head_cell}
use Rattle.ignore_pattern.proofs.lemmas.Reading.{ends, unreadable, goes_on}
use Rattle.ignore_pattern.proofs.element.read_elements.Goals as goal

pub returns-in-None : goal.returns-in-None
returns-in-None c =
    let l = c.loop-rest in
    unreadable c.args.whole (elements_of l.elements.items) l.place l.rest.now _ _ (head_cell l.rest.now 0 c.in-len1-up.len_at_least) (rw c.in-None.is at c.in_ok-element_at.ensures.value) ∙ l.invariant

pub loop-rest-preserved : goal.loop-rest-preserved
loop-rest-preserved c =
    let l = c.loop-rest in
    let found = c.in-Some.found in
    goes_on c.args.whole (elements_of l.elements.items) l.place l.rest.now _ _ (head_cell l.rest.now 0 c.in-len1-up.len_at_least) (at_of found) (elements_of c.push.new.self.items) c.split_at.result.1.now
    (rw c.in-Some.is at c.in_ok-element_at.ensures.value) (ap elements_of c.in_ok-push-in-Some.ensures.items ∙ map-append element_of l.elements.items (found.element ∷ [])) c.split_at.ensures.back
    ∙ l.invariant

pub returns : goal.returns
returns c =
    let l = c.loop-rest in
    ends c.args.whole (elements_of l.elements.items) l.place l.rest.now (omega arith) ∙ l.invariant
