use Rattle.std.proofs.Common.{Some, ap, arith, ◌∙◌}
use Rattle.std.specs.Prelude.{length}
use Rattle.byte_nfa.specs.Runs.{size}
use Rattle.byte_nfa.specs.Steps.{NfaValue}
use Rattle.set_matcher.specs.inner.Automata.{ExtensionParts, max_size, nfa_at, no_nfa}
use Rattle.set_matcher.proofs.lemmas.ExtensionMatchers.{any_default, max_bounds}
use Rattle.set_matcher.proofs.automata.matchers.ExtensionMatchers.automaton_at.Goals as goal

pub index-requires : goal.index-requires
index-requires c = omega (arith, c.requires, ap (λ (e : ExtensionParts). length e.nfas) c.self.view_is, c.self.inside.automata.ok.0)

pub returns-clause-automaton : goal.returns-clause-automaton
returns-clause-automaton c =
    c.index.ensures
    ∙ any_default c.self.inside.automata.items c.args.slot c.index.result.now (no_nfa 0) (omega (arith, c.requires, ap (λ (e : ExtensionParts). length e.nfas) c.self.view_is))
    ∙ ap (λ (e : ExtensionParts). nfa_at e.nfas (Some c.args.slot)) c.self.view_is

pub returns-clause-maximum : goal.returns-clause-maximum
returns-clause-maximum c =
    let bound = max_bounds c.self.inside.automata.items c.args.slot c.index.result.now (omega (arith, c.requires, ap (λ (e : ExtensionParts). length e.nfas) c.self.view_is)) in
    omega (arith, bound, ap size c.index.ensures, ap (λ (e : ExtensionParts). max_size e.nfas) c.self.view_is)

pub returns-clause-count : goal.returns-clause-count
returns-clause-count c =
    ap (λ (m : NfaValue). m.index_count) c.index.ensures
    ∙ c.self.invariant.counted c.args.slot c.index.result.now (omega (arith, c.requires, ap (λ (e : ExtensionParts). length e.nfas) c.self.view_is))
    ∙ ap (λ (e : ExtensionParts). e.index_count) c.self.view_is
