use Rattle.std.proofs.Common.{◌≡◌, ap, subst, sym}
use Rattle.std.specs.Prelude.{IfSome}
use Rattle.std.proofs.lemmas.Result.{on_ok_weaker}
use Rattle.set_matcher.specs.inner.Automata.{AutomataParts}
use Rattle.set_matcher.proofs.lemmas.Slots.{two_slots}
use Rattle.set_matcher.proofs.automata.Automata.push_slots.Goals as goal

pub returns : goal.returns
returns c =
    let a = c.args.self.now in
    let by_path = c.in_ok-new_cache.field-0 in
    let by_component = c.in_ok-new_cache-2.field-0 in
    let first = subst (λ (x : AutomataParts). IfSome by_path (λ cache. cache ≡ x.by_path)) c.self.view_is c.in_ok-new_cache.ensures in
    let second = subst (λ (x : AutomataParts). IfSome by_component (λ cache. cache ≡ x.by_component)) c.self.view_is c.in_ok-new_cache-2.ensures in
    let two = two_slots a c.args.memory.now c.push_slot.new.self c.push_slot-2.new.self by_path by_component c.requires c.in_ok-push_slot.ensures.slot c.in_ok-push_slot-2.ensures.slot first second in
    on_ok_weaker c.push_slots.result (λ fits. fits a (sym (ap (λ (x : AutomataParts). x.extensions.nfas) c.self.view_is)) two) c.push_slots.ensures
