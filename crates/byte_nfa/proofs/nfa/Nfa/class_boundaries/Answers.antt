use Rattle.std.proofs.Common.{◌≡◌, ◌+◌, sym, subst}
use Rattle.byte_nfa.specs.Equivalent.{reads_byte}
use Rattle.bit_sets.specs.Bytes.{has_byte}
use Rattle.byte_nfa.specs.Steps.{state}
use Rattle.byte_nfa.specs.inner.Views.{AreHeld, nfa}
use Rattle.byte_nfa.proofs.lemmas.Equivalent.{equivalent_more}
use Rattle.byte_nfa.proofs.lemmas.Reading.{read_item, item_held}
use Rattle.byte_nfa.proofs.nfa.Nfa.class_boundaries.Goals as goal

pub add_boundaries-changes-requires : goal.add_boundaries-changes-requires
add_boundaries-changes-requires c =
    let inside = c.self.inside in
    let targets = inside.targets.items in
    let items = c.deref-state-items.result.now in
    let held = subst (AreHeld inside.sets.items targets) (sym c.deref-state-items.ensures.value) c.self.invariant.held in
    rw c.deref.ensures.value (targets, item_held inside.sets.items targets items c.loop-state.state-index _ held c.loop-state-test.true)

pub loop-state-preserved : goal.loop-state-preserved
loop-state-preserved c = λ b lt.
    let inside = c.self.inside in
    let sets = inside.sets.items in
    let targets = inside.targets.items in
    let items = c.deref-state-items.result.now in
    let m = c.args.self.now in
    let value = subst (λ xs. nfa sets targets xs inside.starts.items inside.index_count ≡ m) (sym c.deref-state-items.ensures.value) c.self.view_is in
    let is = read_item m sets targets items inside.starts.items inside.index_count c.loop-state.state-index _ value c.loop-state-test.true in
    equivalent_more (λ s. reads_byte (state m.states s) b) (λ s. reads_byte (state m.states s) (b + 1)) c.loop-state.state-index (has_byte c.loop-state.changes b) (has_byte c.add_boundaries-changes.result b)
    (rw is (rw c.deref.ensures.value at c.add_boundaries-changes.ensures targets b lt)) (c.loop-state.invariant b lt)
