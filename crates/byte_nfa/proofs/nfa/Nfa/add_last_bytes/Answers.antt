use Rattle.std.proofs.Common.{◌<◌, length, arith, ap, subst}
use Rattle.std.proofs.lemmas.List.{length-map}
use Rattle.byte_nfa.specs.Runs.{size}
use Rattle.byte_nfa.specs.inner.Views.{GoesBelow, of_state}
use Rattle.byte_nfa.proofs.lemmas.Reading.{held_at, state_at}
use Rattle.byte_nfa.proofs.nfa.Nfa.add_last_bytes.Goals as goal

pub add_last_bytes-requires-clause-below : goal.add_last_bytes-requires-clause-below
add_last_bytes-requires-clause-below c =
    let sets = c.self.inside.sets.items in
    let targets = c.self.inside.targets.items in
    let states = c.self.inside.states.items in
    let lt : c.args.s < length states = omega (arith, c.requires.exists, ap size c.self.view_is, length-map states (of_state sets targets)) in
    rw c.deref.ensures.value (
      targets,
      held_at sets targets states c.args.s c.index.result.now c.self.invariant.held lt c.index.ensures,
      subst (GoesBelow c.args.s) (state_at sets targets states c.args.s c.index.result.now lt c.index.ensures) (c.self.invariant.down c.args.s),
    )
