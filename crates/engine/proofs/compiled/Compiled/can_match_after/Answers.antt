use Rattle.std.specs.Prelude.{◌↔◌, Option, IfOk, IfSome, IsTrue}
use Rattle.byte_nfa.specs.Live.{MatchesAfter}
use Rattle.std.proofs.Common.{ap, ℕ, List, ◌≡◌, ◌++◌, ◌∷◌, [], ◌+◌, ◌*◌, ◌≤◌, ◌∙◌, length, arith, sym, subst}
use Rattle.byte_nfa.specs.Runs.{size}
use Rattle.byte_nfa.specs.Steps.{NfaValue, IsReached}
use Rattle.byte_nfa.specs.SimulationValue.{SimulationValue}
use Rattle.engine.proofs.lemmas.Rows.{never_after, stepped_within}
use Rattle.engine.proofs.compiled.Compiled.can_match_after.Goals as goal
use Rattle.engine.proofs.compiled.Compiled.can_match_after.Goals.{in-Some-rows+in_default-can_match_after, in_default-rows}

pub returns-in-Some-can_match_after-clause-some : goal.returns-in-Some-can_match_after-clause-some
returns-in-Some-can_match_after-clause-some c =
    let m = c.args.self.now in
    let made_for : c.in-Some-rows.rows ≡ m = subst (λ (o : Option NfaValue). IfSome o (λ r. r ≡ c.self.inside.source)) c.in-Some-rows.is c.self.invariant.1 ∙ c.self.view_is in
    subst (λ (x : NfaValue). IsTrue c.in-Some-can_match_after.can_match ↔ MatchesAfter x (c.args.text.now ++ c.args.byte ∷ [])) made_for c.in-Some-can_match_after.ensures.some

pub returns-then-not-has_starts-clause-some : goal.returns-then-not-has_starts-clause-some
returns-then-not-has_starts-clause-some c =
    let m = c.args.self.now in
    let is : c.deref.result.now.nfa ≡ m = ap (λ (v : SimulationValue). v.nfa) c.deref.ensures ∙ c.self.invariant.0 ∙ c.self.view_is in
    never_after m (subst (λ (x : NfaValue). (y : List ℕ) (k : ℕ) → IsReached x y k → ⊥) is (c.has_starts.ensures.none c.if-not-has_starts.true)) c.args.text.now c.args.byte

pub returns-clause-some : goal.returns-clause-some
returns-clause-some c =
    let m = c.args.self.now in
    let is : c.deref-2.result.now.nfa ≡ m = ap (λ (v : SimulationValue). v.nfa) c.deref-2.ensures ∙ c.self.invariant.0 ∙ c.self.view_is in
    subst (λ (x : NfaValue). IfOk c.can_match_after-2.result (λ yes. IsTrue yes ↔ MatchesAfter x (c.args.text.now ++ c.args.byte ∷ []))) is c.can_match_after-2.ensures.some

pub returns-clause-visits : goal.returns-clause-visits
returns-clause-visits c =
    let m = c.args.self.now in
    let is : c.deref-2.result.now.nfa ≡ m = ap (λ (v : SimulationValue). v.nfa) c.deref-2.ensures ∙ c.self.invariant.0 ∙ c.self.view_is in
    let positions = length c.args.text.now + 2 in
    let looks : c.match-self.visits ≤ c.args.visits.now + 2 * positions = elim c.match-self.branch [
      | in-Some-rows+in_default-can_match_after w ↦ omega (arith, w.visits-is, w.can_match_after-in-Some-rows.ensures.missed w.in_default-can_match_after.is)
      | in_default-rows w ↦ omega (arith, w.visits-is)
    ] in
    let some : 1 ≤ length m.starts = subst (λ (x : NfaValue). 1 ≤ length x.starts) (ap (λ (v : SimulationValue). v.nfa) (c.deref.ensures ∙ sym c.deref-2.ensures) ∙ is) (c.has_starts.ensures.some c.if-not-has_starts.false) in
    stepped_within positions c.args.visits.now c.match-self.visits c.can_match_after-2.new.visits (size m) (length m.starts) looks (subst (λ (x : NfaValue). c.can_match_after-2.new.visits ≤ c.match-self.visits + positions * size x) is c.can_match_after-2.ensures.visits) some
