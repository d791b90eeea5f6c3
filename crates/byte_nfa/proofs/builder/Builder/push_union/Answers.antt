use Rattle.std.proofs.Common.{◌≡◌, ◌∷◌, [], ◌++◌, length, arith, ap, sym, refl, ◌∙◌}
use Rattle.std.proofs.lemmas.List.{append-nil, length-map}
use Rattle.byte_nfa.specs.Steps.{union_state}
use Rattle.byte_nfa.specs.Runs.{size}
use Rattle.byte_nfa.specs.inner.Views.{of_state}
use Rattle.byte_nfa.specs.declared.state.State.TheVariants.{Union}
use Rattle.byte_nfa.proofs.lemmas.Pushing.{sound_more, sound_with, pushes_with, nfa_more, list_last, list_held, on_err}
use Rattle.byte_nfa.proofs.builder.Builder.push_union.Goals as goal

pub invariant_of-self : goal.invariant_of-self
invariant_of-self c =
    let inside = c.self.inside in
    let sets = inside.sets.sets.items in
    let more = c.in_err-list.ensures.more in
    sound_more c.args.self.now sets sets [] inside.targets.items c.hold_list.new.held.items more.0 (sym (append-nil sets)) more.1
    inside.states.items inside.starts.items inside.index_count c.self.view_is c.self.invariant

pub returns-in_err-list-clause-unchanged : goal.returns-in_err-list-clause-unchanged
returns-in_err-list-clause-unchanged c =
    let inside = c.self.inside in
    let sets = inside.sets.sets.items in
    let more = c.in_err-list.ensures.more in
    on_err c.from_residual.result (nfa_more c.args.self.now sets sets [] inside.targets.items c.hold_list.new.held.items more.0 (sym (append-nil sets)) more.1
    inside.states.items inside.starts.items inside.index_count c.self.view_is c.self.invariant)

pub invariant_of-self-in_err-push : goal.invariant_of-self-in_err-push
invariant_of-self-in_err-push c =
    let inside = c.self.inside in
    let sets = inside.sets.sets.items in
    let more = c.in_ok-list.ensures.more in
    rw c.in_err-push.ensures.items (sound_more c.args.self.now sets sets [] inside.targets.items c.hold_list.new.held.items more.0 (sym (append-nil sets)) more.1
    inside.states.items inside.starts.items inside.index_count c.self.view_is c.self.invariant)

pub returns-in_err-push-clause-unchanged : goal.returns-in_err-push-clause-unchanged
returns-in_err-push-clause-unchanged c =
    let inside = c.self.inside in
    let sets = inside.sets.sets.items in
    let more = c.in_ok-list.ensures.more in
    on_err c.from_residual-in_err-push.result (rw c.in_err-push.ensures.items (nfa_more c.args.self.now sets sets [] inside.targets.items c.hold_list.new.held.items more.0 (sym (append-nil sets)) more.1
    inside.states.items inside.starts.items inside.index_count c.self.view_is c.self.invariant))

pub invariant_of-self-2 : goal.invariant_of-self-2
invariant_of-self-2 c =
    let inside = c.self.inside in
    let sets = inside.sets.sets.items in
    let targets = inside.targets.items in
    let states = inside.states.items in
    let list = c.args.targets.now in
    let count : size c.args.self.now ≡ length states = sym (ap size c.self.view_is) ∙ length-map states (of_state sets targets) in
    rw (c.in_ok-push.ensures.items, c.in_ok-list.ensures.items, c.in_ok-list.ensures.at) (sound_with c.args.self.now sets sets [] targets (targets ++ length list ∷ list) (length list ∷ list) (sym (append-nil sets)) refl
    states inside.starts.items inside.index_count c.self.view_is c.self.invariant
    (Union (length targets)) (union_state list) (ap union_state (list_last targets list))
    (list_held sets targets list) (λ i lt. let below = c.requires i lt in omega arith) tt)

pub returns-clause-pushed : goal.returns-clause-pushed
returns-clause-pushed c =
    let inside = c.self.inside in
    let sets = inside.sets.sets.items in
    let targets = inside.targets.items in
    let list = c.args.targets.now in
    rw (c.in_ok-push.ensures.items, c.in_ok-list.ensures.items, c.in_ok-list.ensures.at) (pushes_with c.args.self.now sets sets [] targets (targets ++ length list ∷ list) (length list ∷ list) (sym (append-nil sets)) refl
    inside.states.items inside.starts.items inside.index_count c.self.view_is c.self.invariant
    (Union (length targets)) (union_state list) (ap union_state (list_last targets list))
    c.len-at.result (omega (arith, c.len-at.ensures, inside.states.ok.0)))
