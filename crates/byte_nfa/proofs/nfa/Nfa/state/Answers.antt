use Rattle.std.proofs.Common.{◌<◌, length, arith, subst}
use Rattle.byte_nfa.specs.inner.Views.{IsHeld}
use Rattle.byte_nfa.proofs.lemmas.Reading.{held_at}
use Rattle.byte_nfa.proofs.nfa.Nfa.state.Goals as goal

pub set_of-requires : goal.set_of-requires
set_of-requires c =
    let inside = c.self.inside in
    let sets = inside.sets.items in
    let targets = inside.targets.items in
    let states = inside.states.items in
    let lt : c.args.s < length states = omega (arith, inside.states.ok.0) in
    rw c.deref.ensures.value (subst (IsHeld sets targets) c.in-Bytes.is (held_at sets targets states c.args.s c.index.result.now c.self.invariant.held lt c.index.ensures))

pub exits_of-requires : goal.exits_of-requires
exits_of-requires c =
    let inside = c.self.inside in
    let sets = inside.sets.items in
    let targets = inside.targets.items in
    let states = inside.states.items in
    let lt : c.args.s < length states = omega (arith, inside.states.ok.0) in
    rw c.deref-in-Union.ensures.value (subst (IsHeld sets targets) c.in-Union.is (held_at sets targets states c.args.s c.index.result.now c.self.invariant.held lt c.index.ensures))

pub set_of-requires-in-Loop : goal.set_of-requires-in-Loop
set_of-requires-in-Loop c =
    let inside = c.self.inside in
    let sets = inside.sets.items in
    let targets = inside.targets.items in
    let states = inside.states.items in
    let lt : c.args.s < length states = omega (arith, inside.states.ok.0) in
    rw c.deref-in-Loop.ensures.value (subst (IsHeld sets targets) c.in-Loop.is (held_at sets targets states c.args.s c.index.result.now c.self.invariant.held lt c.index.ensures))
