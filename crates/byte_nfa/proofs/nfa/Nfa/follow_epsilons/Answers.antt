use Rattle.std.proofs.Common.{◌<◌, length, arith, ap, subst}
use Rattle.std.proofs.lemmas.List.{length-map}
use Rattle.byte_nfa.specs.Steps.{NfaValue, state}
use Rattle.byte_nfa.specs.Runs.{size}
use Rattle.byte_nfa.specs.inner.Views.{GoesBelow, NamesBelow, of_state}
use Rattle.byte_nfa.proofs.lemmas.Reading.{held_at, state_at, read_state, follows_epsilons}
use Rattle.byte_nfa.proofs.nfa.Nfa.follow_epsilons.Goals as goal

pub follow_epsilons-requires-clause-below : goal.follow_epsilons-requires-clause-below
follow_epsilons-requires-clause-below c =
    let sets = c.self.inside.sets.items in
    let targets = c.self.inside.targets.items in
    let states = c.self.inside.states.items in
    let lt : c.args.s < length states = omega (arith, c.requires.exists, ap size c.self.view_is, length-map states (of_state sets targets)) in
    rw c.deref.ensures.value (
      sets,
      held_at sets targets states c.args.s c.index.result.now c.self.invariant.held lt c.index.ensures,
      subst (GoesBelow c.args.s) (state_at sets targets states c.args.s c.index.result.now lt c.index.ensures) (c.self.invariant.down c.args.s),
    )

pub returns-clause-end : goal.returns-clause-end
returns-clause-end c =
    let inside = c.self.inside in
    let sets = inside.sets.items in
    let targets = inside.targets.items in
    let states = inside.states.items in
    let m = c.args.self.now in
    let lt : c.args.s < length states = omega (arith, c.requires.exists, ap size c.self.view_is, length-map states (of_state sets targets)) in
    let named = subst (λ (o : NfaValue). NamesBelow o.index_count (state o.states c.args.s)) c.self.view_is (c.self.invariant.named c.args.s) in
    follows_epsilons c.follow_epsilons.result m.index_count (state m.states c.args.s) (of_state sets targets c.index.result.now)
    (read_state m sets targets states inside.starts.items inside.index_count c.args.s c.index.result.now c.self.view_is lt c.index.ensures) named
    (rw c.deref.ensures.value at c.follow_epsilons.ensures.end sets)
