use Rattle.std.proofs.Common.{◌≡◌, ap, sym, subst, ◌∙◌}
use Rattle.std.specs.Prelude.{OnOk}
use Rattle.byte_nfa.specs.Runs.{size}
use Rattle.engine.specs.Matching.{AddsReached}
use Rattle.engine.proofs.lemmas.Rows.{none_added}
use Rattle.set_matcher.specs.inner.Automata.{before_extension, nfa_at}
use Rattle.set_matcher.proofs.lemmas.Automata.{no_reached}
use Rattle.set_matcher.proofs.automata.matchers.ExtensionMatchers.find.Goals as goal

pub returns-in_default-clause-found : goal.returns-in_default-clause-found
returns-in_default-clause-found c =
    let m = nfa_at c.args.self.now.nfas c.args.slot in
    let text = before_extension c.args.path.now in
    let none : size m ≡ 0 = ap (λ o. size (nfa_at c.args.self.now.nfas o)) c.in_default.is in
    none_added m text c.args.marks.now (λ k. no_reached m text k none)

pub returns-clause-found : goal.returns-clause-found
returns-clause-found c =
    subst (λ m. OnOk c.find.result (AddsReached m (before_extension c.args.path.now) c.args.marks.now c.find.new.found))
    (c.automaton_at-automaton.ensures.automaton ∙ ap (nfa_at c.args.self.now.nfas) (sym c.in-Some.is))
    (subst (λ text. OnOk c.find.result (AddsReached c.automaton_at-automaton.result.now text c.args.marks.now c.find.new.found)) c.before_extension-text.ensures c.find.ensures.reached)
