use Rattle.std.proofs.Common.{ℕ, List, ◌≡◌, ◌∙◌, ap, sym, subst}
use Rattle.byte_nfa.specs.Steps.{NfaValue, IsReached}
use Rattle.byte_nfa.specs.SimulationValue.{SimulationValue}
use Rattle.engine.proofs.compiled.Compiled.leads_to_none.Goals as goal

pub returns-then-not-has_starts-clause-none : goal.returns-then-not-has_starts-clause-none
returns-then-not-has_starts-clause-none c = λ _ k reached.
    let m = c.args.self.now in
    let is : c.deref.result.now.nfa ≡ m = ap (λ (v : SimulationValue). v.nfa) c.deref.ensures ∙ c.self.invariant.0 ∙ c.self.view_is in
    (subst (λ (x : NfaValue). (y : List ℕ) (k : ℕ) → IsReached x y k → ⊥) is (c.has_starts.ensures.none c.if-not-has_starts.true)) c.args.text.now k reached

pub returns-clause-none : goal.returns-clause-none
returns-clause-none c = λ yes k reached.
    c.rejects_last_byte.ensures.rejected yes k (subst (λ (x : NfaValue). IsReached x c.args.text.now k) (sym c.self.view_is) reached)
