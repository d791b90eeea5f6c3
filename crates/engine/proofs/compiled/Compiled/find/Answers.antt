use Rattle.std.proofs.Common.{◌≡◌, ◌+◌, ◌*◌, ◌≤◌, ◌∙◌, length, ap, arith, sym, subst}
use Rattle.std.specs.Prelude.{Option, IfSome}
use Rattle.std.proofs.lemmas.Result.{on_ok_weaker}
use Rattle.bit_sets.specs.declared.index_set.IndexSet.{IndexSet}
use Rattle.byte_nfa.specs.Runs.{size}
use Rattle.byte_nfa.specs.Steps.{NfaValue}
use Rattle.byte_nfa.specs.SimulationValue.{SimulationValue}
use Rattle.engine.specs.Matching.{AddsReached}
use Rattle.engine.specs.inner.Found.{AddsSome}
use Rattle.engine.proofs.lemmas.Rows.{adds_nothing, adds_rest, none_added, stepped_within}
use Rattle.engine.proofs.compiled.Compiled.find.Goals as goal
use Rattle.engine.proofs.compiled.Compiled.find.Goals.{in-Some-rows+else-find, in_default-rows}

pub returns-then-find-clause-reached : goal.returns-then-find-clause-reached
returns-then-find-clause-reached c =
    let m = c.args.self.now in
    let made_for : c.in-Some-rows.rows ≡ m = subst (λ (o : Option NfaValue). IfSome o (λ r. r ≡ c.self.inside.source)) c.in-Some-rows.is c.self.invariant.1 ∙ c.self.view_is in
    subst (λ (x : NfaValue). AddsReached x c.args.text.now c.args.found.now c.find-in-Some-rows.new.found) made_for (c.find-in-Some-rows.ensures.found c.if-find.true)

pub returns-then-leads_to_none-clause-reached : goal.returns-then-leads_to_none-clause-reached
returns-then-leads_to_none-clause-reached c =
    none_added c.args.self.now c.args.text.now c.args.found.now (c.leads_to_none.ensures.none c.if-leads_to_none.true)

pub returns-clause-reached : goal.returns-clause-reached
returns-clause-reached c =
    let m = c.args.self.now in
    let text = c.args.text.now in
    let before = c.args.found.now in
    let is : c.deref.result.now.nfa ≡ m = ap (λ (v : SimulationValue). v.nfa) c.deref.ensures ∙ c.self.invariant.0 ∙ c.self.view_is in
    let some : AddsSome m text before c.match-self.found = elim c.match-self.branch [
      | in-Some-rows+else-find w ↦
          let made_for : w.in-Some-rows.rows ≡ m = subst (λ (o : Option NfaValue). IfSome o (λ r. r ≡ c.self.inside.source)) w.in-Some-rows.is c.self.invariant.1 ∙ c.self.view_is in
          subst (λ (x : IndexSet). AddsSome m text before x) (sym w.found-is) (subst (λ (x : NfaValue). AddsSome x text before w.find-in-Some-rows.new.found) made_for w.find-in-Some-rows.ensures.some)
      | in_default-rows w ↦ subst (λ (x : IndexSet). AddsSome m text before x) (sym w.found-is) (adds_nothing m text before)
    ] in
    on_ok_weaker c.find-2.result (λ found. adds_rest m text before c.match-self.found c.find-2.new.found some (subst (λ (x : NfaValue). AddsReached x text c.match-self.found c.find-2.new.found) is found)) c.find-2.ensures.found

pub returns-clause-visits : goal.returns-clause-visits
returns-clause-visits c =
    let m = c.args.self.now in
    let is : c.deref.result.now.nfa ≡ m = ap (λ (v : SimulationValue). v.nfa) c.deref.ensures ∙ c.self.invariant.0 ∙ c.self.view_is in
    let positions = length c.args.text.now + 1 in
    let looks : c.match-self.visits ≤ c.args.visits.now + 2 * positions = elim c.match-self.branch [
      | in-Some-rows+else-find w ↦ omega (arith, w.visits-is, w.find-in-Some-rows.ensures.missed w.if-find.false, c.leads_to_none.ensures.visits)
      | in_default-rows w ↦ omega (arith, w.visits-is, c.leads_to_none.ensures.visits)
    ] in
    stepped_within positions c.args.visits.now c.match-self.visits c.find-2.new.visits (size m) (length m.starts) looks (subst (λ (x : NfaValue). c.find-2.new.visits ≤ c.match-self.visits + positions * size x) is c.find-2.ensures.visits)
    (c.leads_to_none.ensures.starts c.if-leads_to_none.false)
