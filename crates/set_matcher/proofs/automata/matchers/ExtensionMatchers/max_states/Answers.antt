use Rattle.std.proofs.Common.{◌≡◌, ◌<◌, ◌+◌, ◌++◌, ◌∷◌, [], max, take, get_or, List, length, ap, sym, subst, arith, ◌∙◌}
use Rattle.std.proofs.lemmas.List.{take_all, take_more}
use Rattle.byte_nfa.specs.Runs.{size}
use Rattle.byte_nfa.specs.Steps.{NfaValue}
use Rattle.set_matcher.specs.inner.Automata.{ExtensionParts, max_size}
use Rattle.set_matcher.proofs.lemmas.ExtensionMatchers.{max_more}
use Rattle.set_matcher.proofs.automata.matchers.ExtensionMatchers.max_states.Goals as goal

pub loop-automaton-preserved : goal.loop-automaton-preserved
loop-automaton-preserved c =
    let nfas = c.args.self.now.nfas in
    let i = c.loop-automaton.automaton-index in
    let m = c.automaton-item.result in
    let same : c.deref-automaton-items.result.now ≡ nfas = c.deref-automaton-items.ensures.value ∙ ap (λ (e : ExtensionParts). e.nfas) c.self.view_is in
    let lt : i < length nfas = omega (arith, c.loop-automaton-test.true, ap length same) in
    let is = subst (λ (ms : List NfaValue). m ≡ get_or ms i m) same c.automaton-item.is in
    let more : max_size (take (i + 1) nfas) ≡ max (size m) (max_size (take i nfas)) =
    ap max_size (take_more nfas i m lt ∙ ap (λ (x : NfaValue). take i nfas ++ x ∷ []) (sym is)) ∙ max_more (take i nfas) m in
    omega (arith, more, c.loop-automaton.invariant)

pub returns : goal.returns
returns c =
    let nfas = c.args.self.now.nfas in
    let same : c.deref-automaton-items.result.now ≡ nfas = c.deref-automaton-items.ensures.value ∙ ap (λ (e : ExtensionParts). e.nfas) c.self.view_is in
    c.loop-automaton.invariant ∙ ap max_size (take_all c.loop-automaton.automaton-index nfas (omega (arith, c.loop-automaton-test.false, ap length same)))
