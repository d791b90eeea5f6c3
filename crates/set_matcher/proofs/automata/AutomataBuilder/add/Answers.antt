use Rattle.std.proofs.Common.{refl, subst, sym}
use Rattle.glob_syntax.specs.Views.{tokens_of}
use Rattle.glob_strategy.specs.IndexedTokens.{indexed}
use Rattle.set_matcher.specs.declared.automata.Target.{Target}
use Rattle.set_matcher.specs.declared.automata.Target.TheVariants.{Path, LastComponent, Extension}
use Rattle.set_matcher.specs.inner.Automata.{AutomataParts}
use Rattle.set_matcher.specs.inner.Builders.{AddsTo}
use Rattle.set_matcher.proofs.lemmas.SetMatcher.{both_on_ok, three_on_ok}
use Rattle.set_matcher.proofs.automata.AutomataBuilder.add.Goals as goal

pub returns-in-Path-clause-added : goal.returns-in-Path-clause-added
returns-in-Path-clause-added c =
    let x = indexed c.args.options (tokens_of c.args.tokens.now) c.args.index in
    let added = c.add_tokens in
    let new : AutomataParts = record { by_path = added.new.builder; by_component = c.self.inside.by_component; extensions = c.self.inside.extensions } in
    both_on_ok added.result
    (λ tokens reads. subst (λ (t : Target). AddsTo t c.args.self.now new x) (sym c.in-Path.is)
    (subst (λ (a : AutomataParts). AddsTo Path a new x) c.self.view_is (record { tokens = tokens; reads = reads }, refl)))
    added.ensures.tokens added.ensures.reads

pub returns-in-LastComponent-clause-added : goal.returns-in-LastComponent-clause-added
returns-in-LastComponent-clause-added c =
    let x = indexed c.args.options (tokens_of c.args.tokens.now) c.args.index in
    let added = c.add_tokens-in-LastComponent in
    let new : AutomataParts = record { by_path = c.self.inside.by_path; by_component = added.new.builder; extensions = c.self.inside.extensions } in
    both_on_ok added.result
    (λ tokens reads. subst (λ (t : Target). AddsTo t c.args.self.now new x) (sym c.in-LastComponent.is)
    (subst (λ (a : AutomataParts). AddsTo LastComponent a new x) c.self.view_is (record { tokens = tokens; reads = reads }, refl)))
    added.ensures.tokens added.ensures.reads

pub returns-in-Extension-clause-added : goal.returns-in-Extension-clause-added
returns-in-Extension-clause-added c =
    let x = indexed c.args.options (tokens_of c.args.tokens.now) c.args.index in
    let added = c.add_tokens-in-Extension in
    let new : AutomataParts = record { by_path = c.self.inside.by_path; by_component = c.self.inside.by_component; extensions = added.new.self } in
    three_on_ok added.result
    (λ tokens reads total. subst (λ (t : Target). AddsTo t c.args.self.now new x) (sym c.in-Extension.is)
    (subst (λ (a : AutomataParts). AddsTo (Extension c.in-Extension.key) a new x) c.self.view_is (record { tokens = tokens; reads = reads; total = total }, refl)))
    added.ensures.tokens added.ensures.reads added.ensures.total
