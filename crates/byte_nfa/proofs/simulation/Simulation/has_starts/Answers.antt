use Rattle.std.proofs.Common.{◌≡◌, ◌∙◌, Bool, true, false, not, true≢false, IsTrue, IsFalse, length, refl, ap, sym, subst}
use Rattle.std.proofs.lemmas.Bool.{eqb-true}
use Rattle.byte_nfa.specs.Steps.{NfaValue, IsReached}
use Rattle.byte_nfa.proofs.lemmas.Running.{none_without_starts}
use Rattle.byte_nfa.proofs.simulation.Simulation.has_starts.Goals as goal

was_true : (b : Bool) → IsFalse (not b) → IsTrue b
was_true true h = refl
was_true false h = absurd (true≢false h)

pub returns-clause-none : goal.returns-clause-none
returns-clause-none c = λ h y k reached.
    let m = c.self.inside.automaton in
    let none = eqb-true (length c.starts.result.now) 0 (sym c.is_empty.ensures ∙ was_true c.is_empty.result h) in
    let empty : length m.starts ≡ 0 = sym (ap length c.starts.ensures.starts) ∙ none in
    none_without_starts c.self.inside.source.value m c.self.invariant.runs empty y k (subst (λ (x : NfaValue). IsReached x y k) (sym (ap (λ v. v.nfa) c.self.view_is)) reached)
