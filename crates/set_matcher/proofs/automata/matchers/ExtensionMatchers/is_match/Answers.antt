use Rattle.std.proofs.Common.{◌≡◌, ℕ, ap, sym, subst, ◌∙◌}
use Rattle.std.specs.Prelude.{◌↔◌, IfOk, IsTrue}
use Rattle.byte_nfa.specs.Runs.{size}
use Rattle.byte_nfa.specs.Steps.{IsReached}
use Rattle.engine.proofs.lemmas.Rows.{none_matches}
use Rattle.set_matcher.specs.inner.Automata.{before_extension, nfa_at}
use Rattle.set_matcher.proofs.lemmas.Automata.{no_reached}
use Rattle.set_matcher.proofs.automata.matchers.ExtensionMatchers.is_match.Goals as goal

pub returns-in_default-clause-some : goal.returns-in_default-clause-some
returns-in_default-clause-some c =
    let m = nfa_at c.args.self.now.nfas c.args.slot in
    let text = before_extension c.args.path.now in
    let none : size m ≡ 0 = ap (λ o. size (nfa_at c.args.self.now.nfas o)) c.in_default.is in
    none_matches m text (λ k. no_reached m text k none)

pub returns-clause-some : goal.returns-clause-some
returns-clause-some c =
    subst (λ m. IfOk c.is_match.result (λ yes. IsTrue yes ↔ ((k : ℕ) × IsReached m (before_extension c.args.path.now) k)))
    (c.automaton_at-automaton.ensures.automaton ∙ ap (nfa_at c.args.self.now.nfas) (sym c.in-Some.is))
    (subst (λ text. IfOk c.is_match.result (λ yes. IsTrue yes ↔ ((k : ℕ) × IsReached c.automaton_at-automaton.result.now text k))) c.before_extension-text.ensures c.is_match.ensures.some)
