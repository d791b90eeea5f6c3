use Rattle.std.proofs.Common.{arith}
use Rattle.byte_nfa.proofs.lemmas.Pass.{iff_trans}
use Rattle.byte_nfa.specs.Runs.{size}
use Rattle.lazy_dfa.proofs.lemmas.Ordering.{accepts_same, below_same}
use Rattle.lazy_dfa.proofs.lemmas.Rows.{accepts_listed}
use Rattle.lazy_dfa.proofs.rows.Rows.row_of_from.Goals as goal

pub seek-requires-clause-list : goal.seek-requires-clause-list
seek-requires-clause-list c = rw c.deref.ensures.value record {
  below = below_same (size c.args.dfa.now.run) c.list_of.new.list.items c.put_in_order.new.list.items c.put_in_order.ensures.has (rw c.state_count.ensures at c.list_of.ensures.below);
  few = omega (arith, c.state_count.ensures, c.list_of.ensures.few, c.put_in_order.ensures.few);
  ordered = c.put_in_order.ensures.ordered;
}

pub returns-clause-row : goal.returns-clause-row
returns-clause-row c =
    let (j, at, states) = rw c.deref.ensures.value at c.seek.ensures.row in
    let m = c.args.dfa.now.run in
    let list = c.list_of.new.list.items in (
      j,
      at,
      λ y k. iff_trans (accepts_listed m c.args.pass.now.from list (rw c.state_count.ensures at c.list_of.ensures.has) y k)
          (iff_trans (accepts_same m list c.put_in_order.new.list.items c.put_in_order.ensures.has y k) (states y k)),
    )
