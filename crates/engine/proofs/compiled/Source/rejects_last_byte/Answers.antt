use Rattle.std.proofs.Common.{not, Bool, true, false, true≢false, ℕ, List, [], ◌∷◌, ◌++◌, IsTrue, ◌∙◌, sym, subst}
use Rattle.byte_nfa.specs.Steps.{NfaValue, IsReached}
use Rattle.engine.proofs.compiled.Source.rejects_last_byte.Goals as goal

not_both : (b : Bool) → IsTrue (not b) → IsTrue b → ⊥
not_both true h k = true≢false (sym h)
not_both false h k = true≢false (sym k)

pub returns-in-Some-clause-rejected : goal.returns-in-Some-clause-rejected
returns-in-Some-clause-rejected c = λ missing k reached.
    let ends = subst (λ (y : List ℕ). IsReached c.args.self.now y k) c.in-Some.ensures.cases.0 reached in
    let here = subst (λ (m : NfaValue). IsReached m (c.in-Some.field-0-1.now ++ c.in-Some.last.now ∷ []) k) (sym c.self.view_is) ends in
    not_both c.has.result missing (c.has.ensures ∙ c.self.invariant.last c.in-Some.field-0-1.now c.in-Some.last.now k here)
