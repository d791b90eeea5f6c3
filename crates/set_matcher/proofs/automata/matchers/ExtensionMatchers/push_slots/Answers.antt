use Rattle.std.proofs.Common.{◌≡◌, ◌+◌, ◌<◌, ℕ, List, [], ◌∷◌, get_or, length, ap, sym, subst, ◌∙◌, arith}
use Rattle.std.specs.Prelude.{IfSome}
use Rattle.std.proofs.lemmas.List.{length-append}
use Rattle.byte_nfa.specs.Steps.{NfaValue}
use Rattle.set_matcher.specs.inner.Automata.{AutomataParts, ExtensionParts, no_nfa}
use Rattle.set_matcher.proofs.lemmas.ExtensionMatchers.{any_default}
use Rattle.set_matcher.proofs.lemmas.Slots.{slot_pushed}
use Rattle.set_matcher.proofs.automata.matchers.ExtensionMatchers.push_slots.Goals as goal

pub loop-automaton-preserved : goal.loop-automaton-preserved
loop-automaton-preserved c =
    let nfas = c.args.self.now.nfas in
    let inv = c.loop-automaton.invariant in
    let i = c.loop-automaton.automaton-index in
    let m = c.automaton-item.result in
    let cache = c.in_ok-new_cache.field-0 in
    let same : c.deref-automaton-items.result.now ≡ nfas = c.deref-automaton-items.ensures.value ∙ ap (λ (e : ExtensionParts). e.nfas) c.self.view_is in
    let lt : i < length nfas = omega (arith, c.loop-automaton-test.true, ap length same) in
    let is = subst (λ (ms : List NfaValue). m ≡ get_or ms i m) same c.automaton-item.is in
    record {
      len = omega (arith, inv.len, ap length c.in_ok-push_slot.ensures.slot, length-append c.loop-automaton.memory.caches (cache ∷ []));
      fits = λ a nfas_are before.
          let at : m ≡ get_or a.extensions.nfas i (no_nfa 0) = is ∙ any_default nfas i m (no_nfa 0) lt ∙ ap (λ (ms : List NfaValue). get_or ms i (no_nfa 0)) (sym nfas_are) in
          slot_pushed a c.loop-automaton.memory c.push_slot.new.self i cache inv.len c.in_ok-push_slot.ensures.slot (subst (λ (y : NfaValue). IfSome cache (λ x. x ≡ y)) at c.in_ok-new_cache.ensures) (inv.fits a nfas_are before);
    }
