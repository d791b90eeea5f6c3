use Rattle.std.proofs.Common.{ap, ◌∙◌}
use Rattle.bit_sets.proofs.lemmas.Texts.{all_bytes}
use Rattle.lazy_dfa.specs.DfaValue.{DfaValue}
use Rattle.lazy_dfa.specs.inner.Dfa.{IsDfa}
use Rattle.byte_nfa.proofs.lemmas.Pass.{iff_trans}
use Rattle.byte_nfa.specs.Steps.{IsReached}
use Rattle.byte_nfa.specs.EarlyMatches.{half}
use Rattle.byte_nfa.proofs.lemmas.Finding.{finds_same, iff_beside}
use Rattle.lazy_dfa.specs.inner.Rows.{AcceptsRow, IsSound}
use Rattle.lazy_dfa.proofs.lemmas.Reading.{finds_some, found_before, reads_as}
use Rattle.lazy_dfa.proofs.cache.Cache.find_known.Goals as goal

pub returns-in-Some-clause-found : goal.returns-in-Some-clause-found
returns-in-Some-clause-found c = λ on k.
    let d = c.deref-dfa.result.now in
    let is = ap (λ (x : DfaValue). x.nfa) c.deref-dfa.ensures ∙ c.self.view_is in
    let dfa : IsDfa d = rw c.deref-dfa.ensures c.self.invariant.0.dfa in
    let text = c.args.text.now in
    let bytes = all_bytes text (λ j. (c.type_inv.text j).fits) in
    let rows = c.deref-rows.result.now in
    let sound : IsSound d rows = rw (c.deref-dfa.ensures, c.deref-rows.ensures) c.self.invariant.0 in
    let (j, at, begins) = sound.begins c.in-Some.place c.in-Some.is in
    iff_trans (finds_some d rows j text c.args.found.now c.find_from.new.found c.find_from.result c.is_none.result (c.find_from.ensures.found j at) c.is_none.ensures on k)
    (iff_beside (iff_trans (finds_same (half d.run) (AcceptsRow d.run rows j) (IsReached d.run) begins text k) (reads_as d c.args.self.now dfa is text bytes k)))

pub returns-in-Some-clause-sound : goal.returns-in-Some-clause-sound
returns-in-Some-clause-sound c = λ k h.
    let d = c.deref-dfa.result.now in
    let is = ap (λ (x : DfaValue). x.nfa) c.deref-dfa.ensures ∙ c.self.view_is in
    let dfa : IsDfa d = rw c.deref-dfa.ensures c.self.invariant.0.dfa in
    let text = c.args.text.now in
    let bytes = all_bytes text (λ j. (c.type_inv.text j).fits) in
    let rows = c.deref-rows.result.now in
    let sound : IsSound d rows = rw (c.deref-dfa.ensures, c.deref-rows.ensures) c.self.invariant.0 in
    let (j, at, begins) = sound.begins c.in-Some.place c.in-Some.is in
    (iff_beside (reads_as d c.args.self.now dfa is text bytes k)).0
    (found_before d rows j text c.args.found.now c.find_from.new.found c.find_from.result begins (c.find_from.ensures.found j at) k h)
