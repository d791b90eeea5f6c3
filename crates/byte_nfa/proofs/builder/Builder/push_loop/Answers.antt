use Rattle.std.proofs.Common.{◌∷◌, [], ◌<◌, length, arith, ap, sym}
use Rattle.std.proofs.lemmas.List.{append-nil, length-map}
use Rattle.byte_nfa.specs.Steps.{loop_state}
use Rattle.byte_nfa.specs.Runs.{size}
use Rattle.byte_nfa.specs.inner.Views.{of_state}
use Rattle.byte_nfa.specs.declared.state.State.TheVariants.{Loop}
use Rattle.byte_nfa.proofs.lemmas.Pushing.{sound_more, sound_with, pushes_with, nfa_more, one_below, on_err}
use Rattle.byte_nfa.proofs.builder.Builder.push_loop.Goals as goal

pub invariant_of-self : goal.invariant_of-self
invariant_of-self c =
    let inside = c.self.inside in
    let targets = inside.targets.items in
    let more = c.in_err-set.ensures.more in
    sound_more c.args.self.now inside.sets.sets.items c.number_of.new.self.sets.items more.0 targets targets [] more.1 (sym (append-nil targets))
    inside.states.items inside.starts.items inside.index_count c.self.view_is c.self.invariant

pub returns-in_err-set-clause-unchanged : goal.returns-in_err-set-clause-unchanged
returns-in_err-set-clause-unchanged c =
    let inside = c.self.inside in
    let targets = inside.targets.items in
    let more = c.in_err-set.ensures.more in
    on_err c.from_residual.result (nfa_more c.args.self.now inside.sets.sets.items c.number_of.new.self.sets.items more.0 targets targets [] more.1 (sym (append-nil targets))
    inside.states.items inside.starts.items inside.index_count c.self.view_is c.self.invariant)

pub invariant_of-self-in_err-push : goal.invariant_of-self-in_err-push
invariant_of-self-in_err-push c =
    let inside = c.self.inside in
    let targets = inside.targets.items in
    let more = c.in_ok-set.ensures.more in
    rw c.in_err-push.ensures.items (sound_more c.args.self.now inside.sets.sets.items c.number_of.new.self.sets.items more.0 targets targets [] more.1 (sym (append-nil targets))
    inside.states.items inside.starts.items inside.index_count c.self.view_is c.self.invariant)

pub returns-in_err-push-clause-unchanged : goal.returns-in_err-push-clause-unchanged
returns-in_err-push-clause-unchanged c =
    let inside = c.self.inside in
    let targets = inside.targets.items in
    let more = c.in_ok-set.ensures.more in
    on_err c.from_residual-in_err-push.result (rw c.in_err-push.ensures.items (nfa_more c.args.self.now inside.sets.sets.items c.number_of.new.self.sets.items more.0 targets targets [] more.1 (sym (append-nil targets))
    inside.states.items inside.starts.items inside.index_count c.self.view_is c.self.invariant))

pub invariant_of-self-2 : goal.invariant_of-self-2
invariant_of-self-2 c =
    let inside = c.self.inside in
    let targets = inside.targets.items in
    let states = inside.states.items in
    let more = c.in_ok-set.ensures.more in
    let held = c.in_ok-set.ensures.held in
    let lt : c.args.exit < length states = omega (arith, c.requires, ap size c.self.view_is, length-map states (of_state inside.sets.sets.items targets)) in
    rw c.in_ok-push.ensures.items (sound_with c.args.self.now inside.sets.sets.items c.number_of.new.self.sets.items more.0 targets targets [] more.1 (sym (append-nil targets))
    states inside.starts.items inside.index_count c.self.view_is c.self.invariant
    (Loop c.in_ok-set.set c.args.exit) (loop_state c.args.bytes (c.args.exit ∷ [])) (ap (λ w. loop_state w (c.args.exit ∷ [])) held.1)
    held.0 (one_below c.args.exit (length states) lt) tt)

pub returns-clause-pushed : goal.returns-clause-pushed
returns-clause-pushed c =
    let inside = c.self.inside in
    let targets = inside.targets.items in
    let more = c.in_ok-set.ensures.more in
    let held = c.in_ok-set.ensures.held in
    rw c.in_ok-push.ensures.items (pushes_with c.args.self.now inside.sets.sets.items c.number_of.new.self.sets.items more.0 targets targets [] more.1 (sym (append-nil targets))
    inside.states.items inside.starts.items inside.index_count c.self.view_is c.self.invariant
    (Loop c.in_ok-set.set c.args.exit) (loop_state c.args.bytes (c.args.exit ∷ [])) (ap (λ w. loop_state w (c.args.exit ∷ [])) held.1)
    c.len-at.result (omega (arith, c.len-at.ensures, inside.states.ok.0)))
