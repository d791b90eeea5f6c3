use Rattle.std.proofs.Common.{◌≡◌, length, ap, sym, ◌∙◌}
use Rattle.std.proofs.lemmas.List.{length-map}
use Rattle.bit_sets.specs.StateSets.{has_state}
use Rattle.byte_nfa.specs.Steps.{NfaValue}
use Rattle.byte_nfa.specs.Runs.{size}
use Rattle.byte_nfa.specs.inner.Views.{of_state}
use Rattle.byte_nfa.proofs.lemmas.Reading.{starts_put}
use Rattle.byte_nfa.proofs.nfa.Nfa.start.Goals as goal

pub returns-clause-starts : goal.returns-clause-starts
returns-clause-starts c =
    let inside = c.self.inside in
    let count : length inside.states.items ≡ size c.args.self.now = sym (length-map inside.states.items (of_state inside.sets.items inside.targets.items)) ∙ ap size c.self.view_is in
    starts_put c.args.self.now inside.starts.items (length inside.states.items) (has_state c.clear.new.self) (has_state c.put_all.new.self)
    (ap (λ (m : NfaValue). m.starts) c.self.view_is) count c.self.invariant.begun
    (λ t lt. c.clear.ensures.none t)
    (λ t. let has = c.put_all.ensures.has t in rw c.deref.ensures.value at has)
