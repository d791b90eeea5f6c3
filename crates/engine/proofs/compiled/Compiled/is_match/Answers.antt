use Rattle.std.specs.Prelude.{◌↔◌, Option, IfOk, IfSome, IsTrue}
use Rattle.std.proofs.Common.{ℕ, ◌≡◌, ◌∙◌, ◌+◌, ◌*◌, ◌≤◌, length, ap, arith, subst}
use Rattle.byte_nfa.specs.Runs.{size}
use Rattle.byte_nfa.specs.Steps.{NfaValue, IsReached}
use Rattle.byte_nfa.specs.SimulationValue.{SimulationValue}
use Rattle.engine.proofs.lemmas.Rows.{none_matches, stepped_within}
use Rattle.engine.proofs.compiled.Compiled.is_match.Goals as goal
use Rattle.engine.proofs.compiled.Compiled.is_match.Goals.{in-Some-rows+in_default-is_match, in_default-rows}

pub returns-in-Some-is_match-clause-some : goal.returns-in-Some-is_match-clause-some
returns-in-Some-is_match-clause-some c =
    let m = c.args.self.now in
    let made_for : c.in-Some-rows.rows ≡ m = subst (λ (o : Option NfaValue). IfSome o (λ r. r ≡ c.self.inside.source)) c.in-Some-rows.is c.self.invariant.1 ∙ c.self.view_is in
    subst (λ (x : NfaValue). IsTrue c.in-Some-is_match.is_match ↔ ((k : ℕ) × IsReached x c.args.text.now k)) made_for c.in-Some-is_match.ensures.some

pub returns-then-leads_to_none-clause-some : goal.returns-then-leads_to_none-clause-some
returns-then-leads_to_none-clause-some c = none_matches c.args.self.now c.args.text.now (c.leads_to_none.ensures.none c.if-leads_to_none.true)

pub returns-clause-some : goal.returns-clause-some
returns-clause-some c =
    let m = c.args.self.now in
    let is : c.deref.result.now.nfa ≡ m = ap (λ (v : SimulationValue). v.nfa) c.deref.ensures ∙ c.self.invariant.0 ∙ c.self.view_is in
    subst (λ (x : NfaValue). IfOk c.is_match-2.result (λ yes. IsTrue yes ↔ ((k : ℕ) × IsReached x c.args.text.now k))) is c.is_match-2.ensures.some

pub returns-clause-visits : goal.returns-clause-visits
returns-clause-visits c =
    let m = c.args.self.now in
    let is : c.deref.result.now.nfa ≡ m = ap (λ (v : SimulationValue). v.nfa) c.deref.ensures ∙ c.self.invariant.0 ∙ c.self.view_is in
    let positions = length c.args.text.now + 1 in
    let looks : c.match-self.visits ≤ c.args.visits.now + 2 * positions = elim c.match-self.branch [
      | in-Some-rows+in_default-is_match w ↦ omega (arith, w.visits-is, w.is_match-in-Some-rows.ensures.missed w.in_default-is_match.is, c.leads_to_none.ensures.visits)
      | in_default-rows w ↦ omega (arith, w.visits-is, c.leads_to_none.ensures.visits)
    ] in
    stepped_within positions c.args.visits.now c.match-self.visits c.is_match-2.new.visits (size m) (length m.starts) looks (subst (λ (x : NfaValue). c.is_match-2.new.visits ≤ c.match-self.visits + positions * size x) is c.is_match-2.ensures.visits)
    (c.leads_to_none.ensures.starts c.if-leads_to_none.false)
